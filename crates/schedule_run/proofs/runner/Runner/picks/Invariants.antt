use Rattle.std.proofs.Common.{◌≡◌, List, drop}
use Rattle.job_script.specs.Program.{Program}
use Rattle.world_model.specs.declared.event.WorldEvent.{WorldEvent}
use Rattle.trace_walk.specs.Picks.{picked}
use Rattle.schedule_run.specs.inner.Running.{RunStands}
use Rattle.schedule_run.proofs.runner.Runner.picks.Given as goal

abbrev pub invariant-loop-task : goal.invariant-loop-task
invariant-loop-task l =
    (p : Program) (w : List WorldEvent) → RunStands p w l.fn.self → (v : List WorldEvent) × RunStands p v l.self × (picked p v (drop l.task-index l.picks) ≡ picked p w l.picks)
