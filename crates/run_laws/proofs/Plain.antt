-- Plain facts of numbers and lists, which many of these proofs need.
use Rattle.std.proofs.Common.{◌≡◌, ℕ, ◌+◌, Bool, true, cond, List, ◌∷◌, Some, None, sym, ap, ◌∙◌, arith}
use Rattle.std.specs.List.{count_by}
use Rattle.std.proofs.lemmas.Bool.{false≢true}
use Rattle.std.proofs.lemmas.List.Sums.{sum_by-cons}
use Rattle.phase_modes.specs.Lists.{is_empty}
use Rattle.world_model.specs.declared.event.WorldEvent.{WorldEvent}
use Rattle.run_laws.specs.Telling.{Told}

-- ---- numbers

pub plus_none : (x : ℕ) → x ≡ 0 + x
plus_none x = omega arith

pub one_more : (x : ℕ) → 1 + (x + 1) ≡ (1 + x) + 1
one_more x = omega arith

pub swapped : (a b r : ℕ) → a + (b + r) ≡ b + (a + r)
swapped a b r = omega arith

-- ---- lists

pub some_none : {X : Type 0} {x : X} → Some x ≡ None → ⊥
some_none h = cc

pub same_parts : {X : Type 0} {a b : X} {xs ys : List X} → a ∷ xs ≡ b ∷ ys → (a ≡ b) × (xs ≡ ys)
same_parts h = (cc, cc)

-- who has a first is not empty
pub not_empty : {X : Type 0} (x : X) (rest xs : List X) → xs ≡ x ∷ rest → is_empty xs ≡ true → ⊥
not_empty x rest xs h k = false≢true (sym (ap (λ ys. is_empty ys) h) ∙ k)

-- one that is told more, and how many are told of a kind
pub count_more : (q : WorldEvent → Bool) (x : Told) (xs : List Told)
    → count_by (λ (y : Told). q y.event) (x ∷ xs) ≡ cond (q x.event) 1 0 + count_by (λ (y : Told). q y.event) xs
count_more q x xs = sum_by-cons (λ (y : Told). cond (q y.event) 1 0) x xs
