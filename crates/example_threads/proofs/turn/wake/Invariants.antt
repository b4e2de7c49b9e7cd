use Rattle.std.proofs.Common.{length}
use Rattle.example_threads.proofs.turn.wake.Given as goal

abbrev pub decreases-loop-parker : goal.decreases-loop-parker
decreases-loop-parker l = length l.out
