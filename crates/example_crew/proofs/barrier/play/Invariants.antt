use Rattle.example_crew.specs.Sums.{IsSeen}
use Rattle.example_crew.proofs.barrier.play.Given as goal

abbrev pub invariant-loop : goal.invariant-loop
invariant-loop g l = IsSeen l.worker.me l.tally.last
