-- What the partials of a roll hold after each event.
use Rattle.std.proofs.Common.{◌≡◌, ℕ, zero, suc, ◌+◌, ◌≤◌, ◌<◌, ◌==◌, nat_lt, true, false, ◌&&◌, cond, List, [], ◌∷◌, length, map, set, get_or, slice_get, Some, ℤ, refl, ap, ◌∙◌, arith, inl, inr}
use Rattle.std.specs.List.{sum_by, insert, remove}
use Rattle.std.specs.Option.{option_map}
use Rattle.std.proofs.lemmas.Bool.{cases_Bool, eq-eqb, ne_eqb, and_parts, ltb-true}
use Rattle.std.proofs.lemmas.List.Sums.{sum_by-set, sum_by-insert, sum_by-remove, get_or-le-sum_by}
use Rattle.std.proofs.lemmas.Option.{slice_get-map, get_or_from_slice_get}
use Rattle.phase_modes.specs.declared.limits.Limits.{Limits}
use Rattle.phase_modes.specs.Mode.{can_signal}
use Rattle.phase_model.specs.declared.history.Event.{Event}
use Rattle.phase_model.specs.declared.history.Event.TheVariants.{Make, Reg, Sig, Claim, Did, Pass, Send, Look as Looked, Drop}
use Rattle.phase_model.specs.declared.terms.Terms.{Terms}
use Rattle.phase_model.specs.Tasks.{is_live, has_mode}
use Rattle.phase_model.specs.Rules.{is_legal}
use Rattle.phase_model.proofs.Legal.{last_follows}
use Rattle.acc_cells.specs.declared.cell.Cell.{Cell}
use Rattle.acc_cells.specs.Cells.{tally, no_partial, held, Holds, HoldsOnly}
use Rattle.phaser_engine.specs.Lazy.{unfolded, partial_of, partial_with}

-- nobody holds a value of an accumulator that isn't there
known_only : (l : Limits) (terms : Terms) (h : List Event) → is_legal l terms h ≡ true → (t a : ℕ)
    → length terms.ops ≤ a → unfolded t a h ≡ []
known_only l terms [] k t a far = refl
known_only l terms (Make u n ∷ h) k t a far =
    elim (u == t) as (λ b. cond b [] (unfolded t a h) ≡ []) [
      | true ↦ refl
      | false ↦ known_only l terms h (last_follows l terms h (Make u n) k).before t a far
    ]
known_only l terms (Reg q u n ∷ h) k t a far =
    elim (u == t) as (λ b. cond b [] (unfolded t a h) ≡ []) [
      | true ↦ refl
      | false ↦ known_only l terms h (last_follows l terms h (Reg q u n) k).before t a far
    ]
known_only l terms (Sig u x ∷ h) k t a far =
    elim (u == t) as (λ b. cond b [] (unfolded t a h) ≡ []) [
      | true ↦ refl
      | false ↦ known_only l terms h (last_follows l terms h (Sig u x) k).before t a far
    ]
known_only l terms (Drop u ∷ h) k t a far =
    elim (u == t) as (λ b. cond b [] (unfolded t a h) ≡ []) [
      | true ↦ refl
      | false ↦ known_only l terms h (last_follows l terms h (Drop u) k).before t a far
    ]
known_only l terms (Send u b v ∷ h) k t a far =
    let f = last_follows l terms h (Send u b v) k in
    let few : b < length terms.ops =
    ltb-true b (length terms.ops)
    (and_parts (is_live u h && has_mode can_signal u h) (nat_lt b (length terms.ops)) f.permitted).1 in
    let other : (b == a) ≡ false = ne_eqb b a (λ e. omega (arith, e, few, far)) in
    elim (cases_Bool (u == t)) [
      | inl e ↦ rw (e, other) (known_only l terms h f.before t a far)
      | inr e ↦ rw e (known_only l terms h f.before t a far)
    ]
known_only l terms (Claim u ∷ h) k t a far =
    known_only l terms h (last_follows l terms h (Claim u) k).before t a far
known_only l terms (Did u ∷ h) k t a far = known_only l terms h (last_follows l terms h (Did u) k).before t a far
known_only l terms (Pass u ∷ h) k t a far = known_only l terms h (last_follows l terms h (Pass u) k).before t a far
known_only l terms (Looked u b x ∷ h) k t a far =
    known_only l terms h (last_follows l terms h (Looked u b x) k).before t a far

-- a partial holds what its task has not folded
pub holds_it : (h : List Event) (t : ℕ) → Holds (partial_of h t) (λ a. unfolded t a h)
holds_it h t zero near = refl
holds_it h t (suc zero) near = refl
holds_it h t (suc (suc zero)) near = refl
holds_it h t (suc (suc (suc zero))) near = refl
holds_it h t (suc (suc (suc (suc a)))) near = absurd (omega (arith, near))

pub holds_only : (l : Limits) (terms : Terms) (h : List Event) → is_legal l terms h ≡ true → (t : ℕ)
    → HoldsOnly (length terms.ops) (partial_of h t)
holds_only l terms h k t a far near =
    holds_it h t a near ∙ ap (λ vs. Some (tally vs)) (known_only l terms h k t a far)

-- partials are the same where nothing was sent or folded
pub same_partial : (h k : List Event) (t : ℕ) → ((a : ℕ) → unfolded t a h ≡ unfolded t a k)
    → partial_of h t ≡ partial_of k t
same_partial h k t same =
    let a : unfolded t 0 h ≡ unfolded t 0 k = same 0 in
    let b : unfolded t 1 h ≡ unfolded t 1 k = same 1 in
    let c : unfolded t 2 h ≡ unfolded t 2 k = same 2 in
    let d : unfolded t 3 h ≡ unfolded t 3 k = same 3 in
    cc

-- a partial after its task sent
pub partial_sent : (h : List Event) (t a : ℕ) (v : ℤ) → a < 4
    → partial_with a v (partial_of h t) ≡ partial_of (Send t a v ∷ h) t
partial_sent h t zero v near = rw (eq-eqb t t refl) refl
partial_sent h t (suc zero) v near = rw (eq-eqb t t refl) refl
partial_sent h t (suc (suc zero)) v near = rw (eq-eqb t t refl) refl
partial_sent h t (suc (suc (suc zero))) v near = rw (eq-eqb t t refl) refl
partial_sent h t (suc (suc (suc (suc a)))) v near = absurd (omega (arith, near))

-- it holds one value more
pub held_sent : (h : List Event) (t a : ℕ) (v : ℤ) → a < 4
    → held (partial_with a v (partial_of h t)) ≡ held (partial_of h t) + 1
held_sent h t zero v near = omega arith
held_sent h t (suc zero) v near = omega arith
held_sent h t (suc (suc zero)) v near = omega arith
held_sent h t (suc (suc (suc zero))) v near = omega arith
held_sent h t (suc (suc (suc (suc a)))) v near = absurd (omega (arith, near))

-- a partial of nobody is empty
pub partial_gone : (h : List Event) (t : ℕ) → ((a : ℕ) → unfolded t a h ≡ []) → no_partial ≡ partial_of h t
partial_gone h t none =
    let a : unfolded t 0 h ≡ [] = none 0 in
    let b : unfolded t 1 h ≡ [] = none 1 in
    let c : unfolded t 2 h ≡ [] = none 2 in
    let d : unfolded t 3 h ≡ [] = none 3 in
    rw (a, b, c, d) refl

-- the partial of a line is its task's
pub partial_read : (h : List Event) (ts : List ℕ) (t i : ℕ) → slice_get ts i ≡ Some t
    → get_or (map (partial_of h) ts) i no_partial ≡ partial_of h t
partial_read h ts t i at =
    get_or_from_slice_get (map (partial_of h) ts) i (partial_of h t) no_partial
    (slice_get-map (partial_of h) ts i ∙ ap (λ o. option_map (partial_of h) o) at)

-- how many values are held in all
abbrev pub all_held : List (List Cell) → ℕ
all_held ps = sum_by (λ p. held p) ps

pub held_one : (ps : List (List Cell)) (i : ℕ) → i < length ps → held (get_or ps i no_partial) ≤ all_held ps
held_one ps i inside = get_or-le-sum_by (λ (p : List Cell). held p) ps i no_partial inside

pub held_set : (ps : List (List Cell)) (i : ℕ) (p : List Cell) → i < length ps
    → all_held (set ps i p) + held (get_or ps i no_partial) ≡ all_held ps + held p
held_set ps i p inside = sum_by-set (λ (q : List Cell). held q) ps i p no_partial inside

pub held_insert : (ps : List (List Cell)) (i : ℕ) → all_held (insert ps i no_partial) ≡ all_held ps
held_insert ps i = omega (arith, sum_by-insert (λ (q : List Cell). held q) ps i no_partial)

-- what was written before a removal doesn't matter
pub remove_set : (ps : List (List Cell)) (i : ℕ) (p : List Cell) → remove (set ps i p) i ≡ remove ps i
remove_set [] i p = refl
remove_set (q ∷ ps) zero p = refl
remove_set (q ∷ ps) (suc i) p = ap (λ qs. q ∷ qs) (remove_set ps i p)

pub held_remove : (ps : List (List Cell)) (i : ℕ) → i < length ps
    → all_held (remove ps i) + held (get_or ps i no_partial) ≡ all_held ps
held_remove ps i inside = sum_by-remove (λ (q : List Cell). held q) ps i no_partial inside
