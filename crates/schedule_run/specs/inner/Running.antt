-- What a run under way stands for.
use Rattle.std.specs.Prelude.{ℕ, ◌≡◌, ◌≤◌, true, List, length}
use Rattle.phase_modes.specs.Limits.{limits_fit}
use Rattle.phase_modes.specs.declared.limits.Limits.{Limits}
use Rattle.job_script.specs.Program.{Program}
use Rattle.world_model.specs.declared.event.WorldEvent.{WorldEvent}
use Rattle.world_model.specs.Numbers.{is_named}
use Rattle.schedule_run.specs.declared.notes.Notes.{Notes}
use Rattle.schedule_run.specs.declared.record.Record.{Record}
use Rattle.schedule_run.specs.declared.runner.Runner.{Runner}
use Rattle.schedule_run.specs.declared.ended.Ended.{Ended}
use Rattle.schedule_run.specs.inner.Bodies.{BodiesStand}
use Rattle.schedule_run.specs.inner.Ended.{HaveEnded}
use Rattle.schedule_run.specs.inner.Notes.{NotesStand}
use Rattle.schedule_run.specs.inner.Records.{Records}

-- a record and notes are those of the history
pub record Kept (l : Limits) (w : List WorldEvent) (r : Record) (notes : Notes) : Type 0 where
  pub recorded : Records l w r.world r.trace
  pub noted : NotesStand l w notes

-- its record, its notes and its bodies are those of the history, and tasks are numbered without gaps
pub record RunStands (p : Program) (w : List WorldEvent) (r : Runner) : Type 0 where
  pub fit : limits_fit p.limits ≡ true
  pub recorded : Records p.limits w r.recorded.world r.recorded.trace
  pub noted : NotesStand p.limits w r.notes
  pub bodies : BodiesStand p w r.bodies.seats.items
  pub places : length r.bodies.seats.items ≡ p.limits.tasks
  pub gapless : (t u : ℕ) → t ≤ u → is_named u w ≡ true → is_named t w ≡ true

-- the same, and what is known of tasks that have ended is so
pub record RoundStands (p : Program) (w : List WorldEvent) (r : Runner) (ended : Ended) : Type 0 where
  pub run : RunStands p w r
  pub ended_are : HaveEnded w ended.runs.items
