use Rattle.task_queue.proofs.Fairs.{pushes}
use Rattle.task_queue.proofs.deque.put.Goals as goal

pub push_as-requires-clause-pushes : goal.push_as-requires-clause-pushes
push_as-requires-clause-pushes g c = pushes _ _ _ c.requires
