use Rattle.task_queue.proofs.Fairs.{takes}
use Rattle.task_queue.proofs.deque.steal.Goals as goal

pub steal_as-requires-clause-takes : goal.steal_as-requires-clause-takes
steal_as-requires-clause-takes g c = takes _ _ 1 c.requires.part
