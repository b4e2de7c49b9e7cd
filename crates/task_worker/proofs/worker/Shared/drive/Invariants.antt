use Rattle.task_queue.specs.Accounts.{IsSeatOf}
use Rattle.task_worker.proofs.worker.Shared.drive.Given as goal

abbrev pub invariant-loop-event : goal.invariant-loop-event
invariant-loop-event g l = IsSeatOf l.initial.busy.hand.seat l.busy.hand.seat
