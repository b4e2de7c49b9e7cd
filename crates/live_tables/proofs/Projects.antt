-- What a slot's log tells of each phaser, as the log grows.
use Rattle.std.proofs.Common.{◌≡◌, ◌⊎◌, inl, inr, ℕ, ◌<◌, ◌==◌, ◌&&◌, Bool, true, false, cond, List, [], ◌∷◌, ◌++◌, Option, Some, None, refl, ap, sym, ◌∙◌, subst, arith}
use Rattle.std.proofs.lemmas.Bool.{eq-eqb, eqb-true, ne_eqb}
use Rattle.phase_modes.specs.Lists.{is_empty}
use Rattle.phase_model.specs.declared.history.Event.{Event}
use Rattle.phase_model.specs.declared.terms.Terms.{Terms}
use Rattle.phase_model.specs.Laws.{IsLegal}
use Rattle.phase_model.specs.Rules.{Story}
use Rattle.phase_model.specs.Tasks.{live_count}
use Rattle.told_history.specs.declared.wide.LongEvent.{LongEvent}
use Rattle.told_history.specs.Wide.{event_of}
use Rattle.phaser_core.specs.LongLife.{long_limits}
use Rattle.told_history.specs.Tails.{IsTail}
use Rattle.long_locks.specs.Events.{with_one}
use Rattle.told_history.specs.Stories.{GoesOn}
use Rattle.told_history.proofs.Goes.{goes_itself, goes_far}
use Rattle.live_tables.specs.declared.noted.SlotNoted.{SlotNoted}
use Rattle.live_tables.specs.Slots.{past_of, terms_of, told_of, AreLegal, noted}

-- one entry more
one_on : (k : ℕ) (x : SlotNoted) (xs : List SlotNoted) (b : Bool) → (x.number == k) ≡ b
    → GoesOn (told_of k xs) (record { limits = long_limits; terms = cond (b && is_empty (past_of k xs)) x.terms (terms_of k xs); past = cond b (event_of x.event ∷ past_of k xs) (past_of k xs) })
one_on k x xs true is = (refl, (event_of x.event ∷ [], refl), λ some. ap (λ b. cond b x.terms (terms_of k xs)) some)
one_on k x xs false is = goes_itself (told_of k xs)

step : (k : ℕ) (x : SlotNoted) (xs : List SlotNoted) → GoesOn (told_of k xs) (told_of k (x ∷ xs))
step k x xs = one_on k x xs (x.number == k) refl

grown : (k : ℕ) (newer xs : List SlotNoted) → GoesOn (told_of k xs) (told_of k (newer ++ xs))
grown k [] xs = goes_itself (told_of k xs)
grown k (x ∷ newer) xs = goes_far (told_of k xs) (told_of k (newer ++ xs)) (told_of k (x ∷ newer ++ xs)) (grown k newer xs) (step k x (newer ++ xs))

-- a longer log tells each phaser's story on
pub tells_on : (xs ys : List SlotNoted) → IsTail xs ys → (k : ℕ) → GoesOn (told_of k xs) (told_of k ys)
tells_on xs ys tail k = subst (λ (l : List SlotNoted). GoesOn (told_of k xs) (told_of k l)) (sym tail.1) (grown k tail.0 xs)

pub either_tells_on : (xs ys : List SlotNoted) → IsTail xs ys ⊎ IsTail ys xs → ((k : ℕ) → GoesOn (told_of k xs) (told_of k ys)) ⊎ ((k : ℕ) → GoesOn (told_of k ys) (told_of k xs))
either_tells_on xs ys (inl tail) = inl (tells_on xs ys tail)
either_tells_on xs ys (inr tail) = inr (tells_on ys xs tail)

pub same_number : (n : ℕ) → (n == n) ≡ true
same_number n = eq-eqb n n refl

-- the events of phaser n with one of its own
pub past_here : (n : ℕ) (terms : Terms) (o : Option LongEvent) (xs : List SlotNoted) → past_of n (noted n terms o xs) ≡ with_one o (past_of n xs)
past_here n terms None xs = refl
past_here n terms (Some e) xs = ap (λ b. cond b (event_of e ∷ past_of n xs) (past_of n xs)) (same_number n)

-- what it was made with stays
pub terms_here : (n : ℕ) (terms : Terms) (o : Option LongEvent) (xs : List SlotNoted) → is_empty (past_of n xs) ≡ false → terms_of n (noted n terms o xs) ≡ terms_of n xs
terms_here n terms None xs some = refl
terms_here n terms (Some e) xs some = ap (λ b. cond b terms (terms_of n xs)) (ap (λ b. (n == n) && b) some ∙ no (n == n))
  where
    no : (b : Bool) → (b && false) ≡ false
    no true = refl
    no false = refl

-- and its first event tells it
pub terms_first : (n : ℕ) (terms : Terms) (e : LongEvent) (xs : List SlotNoted) → past_of n xs ≡ [] → terms_of n (noted n terms (Some e) xs) ≡ terms
terms_first n terms e xs none = ap (λ b. cond b terms (terms_of n xs)) (ap (λ b. b && is_empty (past_of n xs)) (same_number n) ∙ ap (λ (h : List Event). is_empty h) none)

-- of another phaser nothing changes
pub told_apart : (n k : ℕ) (terms : Terms) (o : Option LongEvent) (xs : List SlotNoted) → (n == k) ≡ false → told_of k (noted n terms o xs) ≡ told_of k xs
told_apart n k terms None xs other = refl
told_apart n k terms (Some e) xs other =
    ap (λ b. record { limits = long_limits; terms = cond (b && is_empty (past_of k xs)) terms (terms_of k xs); past = cond b (event_of e ∷ past_of k xs) (past_of k xs) }) other

-- where this holds of phaser n and of all others, it holds of each
by_number : (P : ℕ → Type 0) (n k : ℕ) (b : Bool) → (n == k) ≡ b → P n → ((n == k) ≡ false → P k) → P k
by_number P n k true is here other = subst P (eqb-true n k is) here
by_number P n k false is here other = other is

pub legal_by : (n : ℕ) (terms : Terms) (o : Option LongEvent) (xs : List SlotNoted) → AreLegal xs → IsLegal (told_of n (noted n terms o xs)) → AreLegal (noted n terms o xs)
legal_by n terms o xs legal here k =
    by_number (λ k. IsLegal (told_of k (noted n terms o xs))) n k (n == k) refl here
    (λ other. subst (λ (s : Story). IsLegal s) (sym (told_apart n k terms o xs other)) (legal k))

pub none_later : (n k : ℕ) (terms : Terms) (o : Option LongEvent) (xs : List SlotNoted) → n < k → past_of k xs ≡ [] → past_of k (noted n terms o xs) ≡ []
none_later n k terms o xs later none =
    ap (λ (s : Story). s.past) (told_apart n k terms o xs (ne_eqb n k (λ same. absurd (omega (arith, later, same))))) ∙ none

pub none_apart : (n k : ℕ) (terms : Terms) (o : Option LongEvent) (xs : List SlotNoted) → (n == k) ≡ false → live_count (past_of k xs) ≡ 0 → live_count (past_of k (noted n terms o xs)) ≡ 0
none_apart n k terms o xs other none = ap (λ (s : Story). live_count s.past) (told_apart n k terms o xs other) ∙ none

-- if nobody is registered on phaser n, nor on another one, nobody is on any
pub none_at_all : (n : ℕ) (xs : List SlotNoted) (s : Story) → told_of n xs ≡ s → live_count s.past ≡ 0
    → ((k : ℕ) → (n == k) ≡ false → live_count (past_of k xs) ≡ 0) → (k : ℕ) → live_count (past_of k xs) ≡ 0
none_at_all n xs s told none gone k =
    by_number (λ k. live_count (past_of k xs) ≡ 0) n k (n == k) refl (ap (λ (v : Story). live_count v.past) told ∙ none) (gone k)

-- with one event more each story goes on
pub noted_on : (n k : ℕ) (terms : Terms) (o : Option LongEvent) (xs : List SlotNoted) → GoesOn (told_of k xs) (told_of k (noted n terms o xs))
noted_on n k terms None xs = goes_itself (told_of k xs)
noted_on n k terms (Some e) xs = step k (record { number = n; terms = terms; event = e }) xs

pub goes_by : (n k : ℕ) (terms : Terms) (o : Option LongEvent) (seen xs ys : List SlotNoted) → IsTail seen xs → ys ≡ noted n terms o xs → GoesOn (told_of k seen) (told_of k ys)
goes_by n k terms o seen xs ys tail is =
    subst (λ (l : List SlotNoted). GoesOn (told_of k seen) (told_of k l)) (sym is)
    (goes_far (told_of k seen) (told_of k xs) (told_of k (noted n terms o xs)) (tells_on seen xs tail k) (noted_on n k terms o xs))
