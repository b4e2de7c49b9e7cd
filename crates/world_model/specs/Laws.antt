-- What holds of the phasers and finishes of each legal world, one by one.
use Rattle.std.specs.Prelude.{ℕ, ◌-◌, ◌≡◌, true, false, List, ◌∷◌, ◌++◌, ℤ}
use Rattle.phase_modes.specs.declared.limits.Limits.{Limits}
use Rattle.phase_modes.specs.Lists.{is_empty}
use Rattle.phase_model.specs.declared.history.Event.{Event}
use Rattle.phase_model.specs.Phases.{waits, IsClosed}
use Rattle.phase_model.specs.Ordering.{IsOrdered}
use Rattle.phase_model.specs.declared.op.Op.{Op}
use Rattle.phase_model.specs.Rules.{look_of, is_legal}
use Rattle.phase_model.specs.Values.{sent}
use Rattle.phase_model.specs.declared.history.Event.TheVariants.{Look as Looked}
use Rattle.phase_model.specs.declared.op.Look.{Look}
use Rattle.finish_core.specs.Finish.{is_legal_finish}
use Rattle.world_model.specs.declared.event.WorldEvent.{WorldEvent}
use Rattle.world_model.specs.Parts.{phaser_past, finish_past, ops_of, terms_of}
use Rattle.world_model.specs.Replies.{is_legal_world}

-- a law of each legal world
abbrev pub OfEachWorld : (Limits → List WorldEvent → Type 0) → Type 0
OfEachWorld P = (l : Limits) (w : List WorldEvent) → is_legal_world l w ≡ true → P l w

-- the history of each phaser is legal
abbrev pub PhasersAreLegal : Type 0
PhasersAreLegal = OfEachWorld (λ l w. (n : ℕ) → is_legal l (terms_of n w) (phaser_past n w) ≡ true)

-- no wait in it passed a phase before every signaller, registered then or later, had signalled it
abbrev pub PhasersAreOrdered : Type 0
PhasersAreOrdered = OfEachWorld (λ l w. (n : ℕ) → IsOrdered (phaser_past n w))

-- once the phaser was made, no value is sent for a phase that is closed, so the folds of a closed phase stay;
-- and what a look saw is such a fold: of a phase that was closed, over all values that were ever sent for it
pub record IsFolded (ops : List Op) (h : List Event) : Type 0 where
  pub stays : (later before : List Event) (p a : ℕ) → h ≡ later ++ before
      → is_empty before ≡ false → IsClosed p before → IsClosed p h × (sent a p h ≡ sent a p before)
  pub seen : (later before : List Event) (t a : ℕ) (x : Look ℤ) → h ≡ later ++ Looked t a x ∷ before
      → IsClosed (waits t before - 1) before × (x ≡ look_of ops a (waits t before) h)

-- the history of each phaser is so
abbrev pub PhasersAreFolded : Type 0
PhasersAreFolded = OfEachWorld (λ l w. (n : ℕ) → IsFolded (ops_of n w) (phaser_past n w))

-- the history of each finish is legal
abbrev pub FinishesAreLegal : Type 0
FinishesAreLegal = OfEachWorld (λ l w. (f : ℕ) → is_legal_finish l.tasks (finish_past f w) ≡ true)
