use Rattle.std.proofs.Common.{length}
use Rattle.task_queue.specs.Accounts.{IsSeatOf}
use Rattle.tasks_in_flight.proofs.hand.Hand.flush.Given as goal

abbrev pub decreases-loop-item : goal.decreases-loop-item
decreases-loop-item g l = length l.out

abbrev pub invariant-loop-item : goal.invariant-loop-item
invariant-loop-item g l = IsSeatOf l.initial.self.seat l.self.seat
