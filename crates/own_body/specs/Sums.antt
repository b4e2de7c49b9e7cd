-- What a task says of the sum that it saw last.
use Rattle.std.specs.Prelude.{ℕ, ℤ, ◌≡◌, ◌-◌, List, ◌∷◌, ◌++◌}
use Rattle.phase_model.specs.declared.history.Event.{Event}
use Rattle.phase_model.specs.declared.history.Event.TheVariants.{Look as Looked}
use Rattle.phase_model.specs.declared.op.Look.{Look}
use Rattle.phase_model.specs.declared.op.Look.TheVariants.{Value, Nothing}
use Rattle.phase_model.specs.Phases.{IsClosed, waits}
use Rattle.phase_model.specs.Rules.{Story, look_of}

-- this task's look at the sum is in the story, and saw this; of no sum nothing is said
abbrev pub IsSeen : ℕ → Story → Look ℤ → Type 0
IsSeen task s (Value v) = (later before : List Event) × (s.past ≡ later ++ Looked task 0 (Value v) ∷ before)
IsSeen task s Nothing = Unit {0}

-- the task saw it after so many turns of its own: it is the fold of all values that are ever sent for the phase before,
-- which was closed then
abbrev pub IsSum : ℕ → Story → Look ℤ → Type 0
IsSum task s (Value v) =
    (later before : List Event)
    × (s.past ≡ later ++ Looked task 0 (Value v) ∷ before)
    × (Value v ≡ look_of s.terms.ops 0 (waits task before) s.past)
    × IsClosed (waits task before - 1) before
IsSum task s Nothing = Unit {0}

-- the task has looked at the sum
abbrev pub HasLookedOnce : ℕ → Story → Type 0
HasLookedOnce task s = (x : Look ℤ) × (later before : List Event) × (s.past ≡ later ++ Looked task 0 x ∷ before)

-- what it saw then is the fold of all values that are ever sent for the phase before its own, which was closed
abbrev pub HasSeenSum : ℕ → Story → Type 0
HasSeenSum task s =
    (x : Look ℤ)
    × (later before : List Event)
    × (s.past ≡ later ++ Looked task 0 x ∷ before)
    × (x ≡ look_of s.terms.ops 0 (waits task before) s.past)
    × IsClosed (waits task before - 1) before
