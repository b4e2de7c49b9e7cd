-- A list of events, judged from its oldest on.
use Rattle.std.proofs.Common.{◌≡◌, ◌≢◌, ℕ, ◌+◌, ◌<◌, ◌≤◌, arith, true, false, List, [], ◌∷◌, ◌++◌, length, reverse, take, drop, get_or, Err, ap, sym, subst, ◌∙◌, append_assoc}
use Rattle.std.proofs.lemmas.List.{reverse-append, take_more, take-append-drop}
use Rattle.std.proofs.lemmas.Bool.{and_parts, and_from, false≢true}
use Rattle.phaser_judge.specs.declared.event.NamedEvent.{NamedEvent}
use Rattle.std.proofs.lemmas.Grind.{common_steps}
use Rattle.phaser_judge.specs.declared.refused.Refused.{Refused}
use Rattle.phaser_judge.specs.declared.refused.Refused.TheVariants.{Memory}
use Rattle.phaser_judge.specs.Courses.{Course}
use Rattle.phaser_judge.specs.Standings.{standing, may_come}
use Rattle.phaser_judge.specs.Reasons.{verdict_at, IsFirstRefused}
use Rattle.phaser_judge.specs.Renaming.{all_come, AreLegal}
use Rattle.phaser_judge.proofs.Lives.{came_before, legal_come, come_legal}

-- the first events and the next one, the newest first
reversed_more : (xs : List NamedEvent) (i : ℕ) (e : NamedEvent) → i < length xs → e ≡ get_or xs i e
    → reverse (take (i + 1) xs) ≡ e ∷ reverse (take i xs)
reversed_more xs i e within is =
    ap (λ ys. reverse ys) (take_more xs i e within)
    ∙ (reverse-append (take i xs) (get_or xs i e ∷ []) ∙ ap (λ x. x ∷ reverse (take i xs)) (sym is))

-- one more came
pub come_more : (xs : List NamedEvent) (i : ℕ) (e : NamedEvent) → i < length xs → e ≡ get_or xs i e
    → all_come (reverse (take i xs)) ≡ true → may_come (standing e.phaser (reverse (take i xs))) e.event ≡ true
    → all_come (reverse (take (i + 1) xs)) ≡ true
come_more xs i e within is k may =
    ap (λ ys. all_come ys) (reversed_more xs i e within is)
    ∙ and_from (may_come (standing e.phaser (reverse (take i xs))) e.event) (all_come (reverse (take i xs))) may k

-- one that may not come is in no legal list
pub not_legal : (xs : List NamedEvent) (i : ℕ) (e : NamedEvent) → i < length xs → e ≡ get_or xs i e
    → may_come (standing e.phaser (reverse (take i xs))) e.event ≡ false → AreLegal (reverse xs) → ⊥
not_legal xs i e within is may legal =
    let parts : reverse xs ≡ reverse (drop (i + 1) xs) ++ (e ∷ reverse (take i xs)) =
    ap (λ ys. reverse ys) (sym (take-append-drop (i + 1) xs))
    ∙ (reverse-append (take (i + 1) xs) (drop (i + 1) xs)
    ∙ ap (λ ys. reverse (drop (i + 1) xs) ++ ys) (reversed_more xs i e within is)) in
    let came = came_before (reverse (drop (i + 1) xs)) (e ∷ reverse (take i xs))
    (subst (λ ys. all_come ys ≡ true) parts (legal_come (reverse xs) legal)) in
    false≢true (sym may
    ∙ (and_parts (may_come (standing e.phaser (reverse (take i xs))) e.event) (all_come (reverse (take i xs))) came).0)

-- what a judge refuses that accepted all before it
pub refuted : (xs : List NamedEvent) (i : ℕ) (e : NamedEvent) (j : Course) (r : Refused) → i < length xs
    → e ≡ get_or xs i e → j ≡ record { events = reverse (take i xs); over = false }
    → (j.over ≡ false → r ≢ Memory → may_come (standing e.phaser j.events) e.event ≡ false)
    → r ≢ Memory → AreLegal (reverse xs) → ⊥
refuted xs i e j r within is accepted refused apart =
    not_legal xs i e within is
    (subst (λ (k : Course). may_come (standing e.phaser k.events) e.event ≡ false) accepted
    (refused (ap (λ (k : Course). k.over) accepted) apart))

-- all came
pub all_legal : (xs : List NamedEvent) (i : ℕ) → length xs ≤ i → all_come (reverse (take i xs)) ≡ true
    → AreLegal (reverse xs)
all_legal xs i all came =
    let whole : take i xs ≡ xs = grind (arith, common_steps) in
    come_legal (reverse xs) (subst (λ ys. all_come (reverse ys) ≡ true) whole came)

-- what a judge says of the first event that it refuses
pub first_refused : (xs : List NamedEvent) (i : ℕ) (e : NamedEvent) (j : Course) (r : Refused) → i < length xs
    → e ≡ get_or xs i e → j ≡ record { events = reverse (take i xs); over = false }
    → all_come (reverse (take i xs)) ≡ true
    → (j.over ≡ false → r ≢ Memory → AreLegal (e ∷ j.events) → ⊥)
    → (j.over ≡ false → r ≢ Memory → verdict_at (standing e.phaser j.events) e.event ≡ Err r)
    → r ≢ Memory → IsFirstRefused xs r
first_refused xs i e j r within is accepted came illegal reason apart =
    let on : j.over ≡ false = ap (λ (k : Course). k.over) accepted in record {
      before = take i xs;
      event = e;
      rest = drop (i + 1) xs;
      split = sym (take-append-drop (i + 1) xs) ∙ ap (λ ys. ys ++ drop (i + 1) xs) (take_more xs i e within)
          ∙ append_assoc (take i xs) (get_or xs i e ∷ []) (drop (i + 1) xs)
          ∙ ap (λ x. take i xs ++ x ∷ drop (i + 1) xs) (sym is);
      legal = come_legal (reverse (take i xs)) came;
      illegal = subst (λ (k : Course). AreLegal (e ∷ k.events) → ⊥) accepted (illegal on apart);
      refused = subst (λ (k : Course). verdict_at (standing e.phaser k.events) e.event ≡ Err r) accepted (reason on apart);
    }
