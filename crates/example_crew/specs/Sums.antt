-- What a worker says of the last sum that it saw.
use Rattle.std.specs.Prelude.{ℕ, ℤ, ◌≡◌, ◌-◌, true, List, ◌∷◌, ◌++◌, Result, IfOk, All}
use Rattle.phase_modes.specs.declared.refusal.Refusal.{Refusal}
use Rattle.phase_model.specs.declared.history.Event.{Event}
use Rattle.phase_model.specs.declared.history.Event.TheVariants.{Look as Looked}
use Rattle.phase_model.specs.declared.op.Look.{Look}
use Rattle.phase_model.specs.declared.op.Look.TheVariants.{Value, Nothing}
use Rattle.phase_model.specs.declared.op.Op.{Op}
use Rattle.phase_model.specs.declared.terms.Terms.{Terms}
use Rattle.phase_model.specs.Phases.{IsClosed, waits}
use Rattle.phase_model.specs.Rules.{is_legal, look_of}
use Rattle.phaser_core.specs.LongLife.{long_limits}
use Rattle.example_crew.specs.declared.barrier.Tally.{Tally}

-- some task's look at the sum is in the history, and saw this; of no sum nothing is said
abbrev pub IsSeen : List Event → Look ℤ → Type 0
IsSeen h (Value v) = (t : ℕ) × (later before : List Event) × (h ≡ later ++ Looked t 0 (Value v) ∷ before)
IsSeen h Nothing = Unit {0}

-- some task's look saw it, after so many turns of that task: it is the fold of all values that are ever sent for the phase
-- before, which was closed then
abbrev pub IsSum : List Op → List Event → Look ℤ → Type 0
IsSum ops h (Value v) =
    (t : ℕ)
    × (later before : List Event)
    × (h ≡ later ++ Looked t 0 (Value v) ∷ before)
    × (Value v ≡ look_of ops 0 (waits t before) h)
    × IsClosed (waits t before - 1) before
IsSum ops h Nothing = Unit {0}

-- in one legal history of a phaser with these terms each last sum that a worker gives back is so
pub record AreSums (terms : Terms) (given : List (Result Tally Refusal)) : Type 0 where
  pub history : List Event
  pub legal : is_legal long_limits terms history ≡ true
  pub sums : All (λ x. ∥ IfOk x (λ tally. IsSum terms.ops history tally.last) ∥₁) given
