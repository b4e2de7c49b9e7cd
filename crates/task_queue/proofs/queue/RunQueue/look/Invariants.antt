use Rattle.task_queue.specs.Accounts.{IsSame}
use Rattle.task_queue.proofs.queue.RunQueue.look.Given as goal

abbrev pub invariant-loop-look : goal.invariant-loop-look
invariant-loop-look g l = IsSame l.initial.seat l.seat
