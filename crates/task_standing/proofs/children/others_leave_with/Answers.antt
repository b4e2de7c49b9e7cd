use Rattle.task_standing.proofs.Unborn.{others_leave_with}
use Rattle.task_standing.proofs.children.others_leave_with.Goals as goal

pub returns : goal.returns
returns c = others_leave_with
