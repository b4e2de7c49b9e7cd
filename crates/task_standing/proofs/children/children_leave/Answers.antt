use Rattle.task_standing.proofs.ChildLeaves.{children_leave}
use Rattle.task_standing.proofs.children.children_leave.Goals as goal

pub returns : goal.returns
returns c = children_leave
