use Rattle.task_queue.proofs.Ordering.{IsOrdering}
use Rattle.task_queue.proofs.order.in_order.Given as goal

abbrev pub invariant-loop-worker : goal.invariant-loop-worker
invariant-loop-worker g l = IsOrdering l.initial.seats.items l.seats.items l.ordered.items l.worker
