-- The names under which a run's logs were begun.
use Rattle.std.proofs.Common.{◌≡◌, ℕ, zero, suc, List, [], ◌∷◌, IfSome, slice_get, refl}

-- the name of the log at this place
abbrev pub name_at : {A : Type 0} → (A → ℕ) → List A → ℕ → ℕ
name_at name [] n = 0
name_at name (x ∷ xs) zero = name x
name_at name (x ∷ xs) (suc n) = name_at name xs n

pub named : {A : Type 0} (name : A → ℕ) (xs : List A) (n : ℕ) → IfSome (slice_get xs n) (λ x. name x ≡ name_at name xs n)
named name [] n = tt
named name (x ∷ xs) zero = refl
named name (x ∷ xs) (suc n) = named name xs n
