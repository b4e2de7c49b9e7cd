use Rattle.task_standing.proofs.Unborn.{children_start_fresh}
use Rattle.task_standing.proofs.children.children_start_fresh.Goals as goal

pub returns : goal.returns
returns c = children_start_fresh
