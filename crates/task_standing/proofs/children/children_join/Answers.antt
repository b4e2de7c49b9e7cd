use Rattle.task_standing.proofs.Unborn.{children_join}
use Rattle.task_standing.proofs.children.children_join.Goals as goal

pub returns : goal.returns
returns c = children_join
