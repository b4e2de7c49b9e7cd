use Rattle.std.proofs.Common.{ℕ, ◌+◌, ◌≤◌, ◌≡◌, List}
use Rattle.job_script.specs.Program.{Program}
use Rattle.world_model.specs.declared.event.WorldEvent.{WorldEvent}
use Rattle.trace_walk.specs.Picks.{round_from}
use Rattle.schedule_run.specs.inner.Ended.{HaveEnded}
use Rattle.schedule_run.specs.inner.Running.{RoundStands, RunStands}
use Rattle.schedule_run.proofs.runner.Runner.round.Given as goal

abbrev pub invariant-loop-step : goal.invariant-loop-step
invariant-loop-step l = record {
  within : l.task ≤ l.tasks;
  steps : l._step ≤ l.task;
  runs : (p : Program) (w : List WorldEvent) → RunStands p w l.fn.self → HaveEnded w l.fn.ended.runs.items
      → (v : List WorldEvent) × RoundStands p v l.self l.ended × ((left : ℕ) → l.task + left ≡ l.tasks → round_from left l.task p v ≡ round_from l.tasks 0 p w);
}
