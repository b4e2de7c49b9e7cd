-- The outcome of a turn.
use Rattle.std.specs.Prelude.{ℕ, ℤ, ◌≡◌, ◌-◌, true, false, List, ◌∷◌, ◌++◌}
use Rattle.phase_modes.specs.Lists.{is_empty}
use Rattle.phase_model.specs.declared.history.Event.{Event}
use Rattle.phase_model.specs.declared.history.Event.TheVariants.{Look as Looked}
use Rattle.phase_model.specs.declared.op.Look.{Look}
use Rattle.phase_model.specs.declared.op.Op.{Op}
use Rattle.phase_model.specs.Phases.{IsClosed, waits}
use Rattle.phase_model.specs.declared.terms.Terms.{Terms}
use Rattle.phase_model.specs.Rules.{is_legal, look_of}
use Rattle.phaser_core.specs.LongLife.{long_limits}
use Rattle.long_locks.specs.Told.{HasLooked}

-- the phase that was passed is closed in what was seen by then, which is something; and later some task looked, and saw
-- this
pub record IsGood (ops : List Op) (p : ℕ) (front later : List Event) (x : Look ℤ) : Type 0 where
  pub closed : IsClosed p front
  pub some : is_empty front ≡ false
  pub seen : (t : ℕ) × HasLooked ops t 0 later x

-- some task's look saw it, after so many turns of that task: it is the fold of all values that were ever sent for the phase
-- before, which was closed then
abbrev pub IsFoldOfAll : List Op → List Event → Look ℤ → Type 0
IsFoldOfAll ops whole x =
    (t : ℕ)
    × (later before : List Event)
    × (whole ≡ later ++ Looked t 0 x ∷ before)
    × (x ≡ look_of ops 0 (waits t before) whole)
    × IsClosed (waits t before - 1) before

-- in one legal history of a phaser with these terms both saw such a fold
pub record AreFoldsOfAll (terms : Terms) (x y : Look ℤ) : Type 0 where
  pub whole : List Event
  pub legal : is_legal long_limits terms whole ≡ true
  pub one : IsFoldOfAll terms.ops whole x
  pub other : IsFoldOfAll terms.ops whole y
