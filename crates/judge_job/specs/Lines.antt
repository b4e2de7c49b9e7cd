-- The lines of a text, each with the newline that ends it.
use Rattle.std.specs.Prelude.{◌≡◌, ◌<◌, ◌+◌, ◌⊎◌, ◌==◌, ℕ, List, [], ◌∷◌, length, Option, Some, None, ⊤, if◌then◌else◌}
use Rattle.phase_modes.specs.declared.refusal.Refusal.TheVariants.{Memory}
use Rattle.job_ends.specs.declared.failure.Failure.{Failure}
use Rattle.job_ends.specs.declared.failure.Failure.TheVariants.{Refused, Read}

-- a byte before the first line
abbrev pub before_first : ℕ → List (List ℕ) → List (List ℕ)
before_first b [] = (b ∷ []) ∷ []
before_first b (l ∷ ls) = (b ∷ l) ∷ ls

-- the lines; the last may lack its newline
abbrev pub lines : List ℕ → List (List ℕ)
lines [] = []
lines (b ∷ bs) = if b == 10 then (b ∷ []) ∷ lines bs else before_first b (lines bs)

-- the lines of the one are this line and those of the other; if the line is empty, there is none
abbrev pub IsTaken : List ℕ → List ℕ → List ℕ → Type 0
IsTaken xs ys [] = (lines xs ≡ []) × (lines ys ≡ [])
IsTaken xs ys (b ∷ bs) = lines xs ≡ (b ∷ bs) ∷ lines ys

-- the line was taken off the known bytes
abbrev pub TakesLine : Option (List ℕ) → Option (List ℕ) → List ℕ → Type 0
TakesLine None new line = ⊤
TakesLine (Some xs) None line = ⊥
TakesLine (Some xs) (Some ys) line = IsTaken xs ys line

-- the first line has more than so many bytes, its newline not among them
pub record IsOfLongLine (most : ℕ) (xs : List ℕ) : Type 0 where
  pub line : List ℕ
  pub rest : List (List ℕ)
  pub first : lines xs ≡ line ∷ rest
  pub long : most + 1 < length line

-- taking a line fails by a read, or for want of memory
abbrev pub IsOfTaking : Failure → Type 0
IsOfTaking f = (f ≡ Read) ⊎ (f ≡ Refused Memory)
