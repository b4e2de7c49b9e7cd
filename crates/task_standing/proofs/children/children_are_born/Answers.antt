use Rattle.task_standing.proofs.Unborn.{children_are_born}
use Rattle.task_standing.proofs.children.children_are_born.Goals as goal

pub returns : goal.returns
returns c = children_are_born
