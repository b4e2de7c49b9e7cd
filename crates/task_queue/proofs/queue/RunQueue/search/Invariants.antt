use Rattle.task_queue.specs.Accounts.{IsSame}
use Rattle.task_queue.proofs.queue.RunQueue.search.Given as goal

abbrev pub invariant-loop : goal.invariant-loop
invariant-loop g l = IsSame l.initial.seat l.seat
