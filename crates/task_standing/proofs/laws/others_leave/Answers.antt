use Rattle.task_standing.proofs.Others.{others_leave}
use Rattle.task_standing.proofs.laws.others_leave.Goals as goal

pub returns : goal.returns
returns c = others_leave
