use Rattle.task_queue.proofs.Fairs.{begins}
use Rattle.task_queue.proofs.deque.fresh.Goals as goal

pub fifo_as-requires : goal.fifo_as-requires
fifo_as-requires g c = begins
