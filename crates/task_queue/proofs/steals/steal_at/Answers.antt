use Rattle.task_queue.specs.Reaches.{reach_deque, stolen_of}
use Rattle.task_queue.proofs.Fairs.{map_kept}
use Rattle.task_queue.proofs.Taking.{one_written}
use Rattle.task_queue.proofs.steals.steal_at.Goals as goal

pub returns-clause-same : goal.returns-clause-same
returns-clause-same g c =
    map_kept reach_deque c.args.reaches.now c.args.at c.index-reaches-at.result c.steal_one.new.reach c.steal_one.ensures.same

pub returns-clause-taken : goal.returns-clause-taken
returns-clause-taken g c =
    one_written stolen_of c.args.reaches.now c.args.at c.index-reaches-at.result c.steal_one.new.reach c.requires.at c.steal_one.result c.steal_one.ensures.taken
