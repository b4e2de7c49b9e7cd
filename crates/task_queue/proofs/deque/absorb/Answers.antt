use Rattle.task_queue.proofs.Fairs.{merges}
use Rattle.task_queue.proofs.deque.absorb.Goals as goal

pub absorb-requires-clause-rule : goal.absorb-requires-clause-rule
absorb-requires-clause-rule g c = merges _ _ _ _ c.requires.part
