-- What was seen of the phasers of a run, of each a beginning of its story.
use Rattle.std.specs.Prelude.{ℕ, zero, suc, ◌≡◌, ◌==◌, false, List, [], ◌∷◌, IfSome, slice_get}
use Rattle.phase_model.specs.Rules.{Story}
use Rattle.table_receipts.specs.Logs.{Sight, blank}
use Rattle.told_history.specs.Stories.{GoesOn}

-- what was seen of phaser n: nothing if there is none
abbrev pub story_at : List Sight → ℕ → Story
story_at [] n = blank (record { acts = 0; finishes = 0; history = 0; phasers = 0; regs = 0; tasks = 0 })
story_at (x ∷ xs) zero = x.story
story_at (x ∷ xs) (suc n) = story_at xs n

-- the phasers' logs have these names, in order
abbrev pub IsNamed : (ℕ → ℕ) → List Sight → Type 0
IsNamed names xs = (n : ℕ) → IfSome (slice_get xs n) (λ x. x.log ≡ names n)

-- of each phaser at least as much was seen, and of all but this one just as much
abbrev pub HasSeenMore : ℕ → (ℕ → Story) → (ℕ → Story) → Type 0
HasSeenMore phaser old new = ((n : ℕ) → GoesOn (old n) (new n)) × ((n : ℕ) → (n == phaser) ≡ false → new n ≡ old n)
