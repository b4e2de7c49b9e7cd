use Rattle.task_queue.proofs.Fairs.{forks}
use Rattle.task_queue.proofs.deque.another.Goals as goal

pub another-requires : goal.another-requires
another-requires g c = forks _ _ c.requires
