use Rattle.std.proofs.Common.{ℕ, ◌+◌, ◌≤◌, ◌≡◌, List, length}
use Rattle.job_script.specs.Program.{Program}
use Rattle.world_model.specs.declared.event.WorldEvent.{WorldEvent}
use Rattle.trace_walk.specs.Picks.{rounds}
use Rattle.schedule_run.specs.inner.Running.{RoundStands, RunStands}
use Rattle.schedule_run.proofs.runner.Runner.rounds.Given as goal

abbrev pub invariant-loop-round : goal.invariant-loop-round
invariant-loop-round l = record {
  grown : (p : Program) × (w : List WorldEvent) × RoundStands p w l.self l.ended × (l._round ≤ length w);
  runs : (p : Program) (w : List WorldEvent) → RunStands p w l.fn.self
      → (n : ℕ) × (v : List WorldEvent) × RoundStands p v l.self l.ended × ((m : ℕ) → rounds (n + m) p w ≡ rounds m p v);
}
