-- What a run's trace has of each phaser, each finish and each task.
use Rattle.std.specs.Prelude.{◌≡◌, List, map}
use Rattle.phase_modes.specs.declared.limits.Limits.{Limits}
use Rattle.share_book.specs.declared.gathering.Totals.{Totals}
use Rattle.world_model.specs.Report.{below}
use Rattle.trace_model.specs.Projections.{phaser, finish, log, projection}
use Rattle.trace_model.specs.Run.{Entry}
use Rattle.phased_rt.specs.Told.{IsToldBy}

-- what a run's trace has of each phaser is exactly the part that tells that phaser's history, entry by entry
abbrev pub PhasersAreTraced : Type 0
PhasersAreTraced =
    (l : Limits) (es : List Entry) (t : Totals) (told : IsToldBy l es t)
    → map (λ n. projection (phaser n) es) (below l.phasers) ≡ told.phasers

-- so is what it has of each finish
abbrev pub FinishesAreTraced : Type 0
FinishesAreTraced =
    (l : Limits) (es : List Entry) (t : Totals) (told : IsToldBy l es t)
    → map (λ f. projection (finish f) es) (below l.finishes) ≡ told.finishes

-- and of each task's log: exactly the log that the task left
abbrev pub LogsAreTraced : Type 0
LogsAreTraced =
    (l : Limits) (es : List Entry) (t : Totals) (told : IsToldBy l es t)
    → map (λ u. projection (log u) es) told.owners ≡ told.logs
