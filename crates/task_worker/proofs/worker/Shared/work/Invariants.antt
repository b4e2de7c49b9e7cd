use Rattle.task_queue.specs.Accounts.{IsSeatOf}
use Rattle.task_worker.proofs.worker.Shared.work.Given as goal

abbrev pub invariant-loop : goal.invariant-loop
invariant-loop g l = IsSeatOf l.initial.busy.hand.seat l.busy.hand.seat
