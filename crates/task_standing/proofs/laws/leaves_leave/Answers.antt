use Rattle.task_standing.proofs.Leaves.{leaves_leave}
use Rattle.task_standing.proofs.laws.leaves_leave.Goals as goal

pub returns : goal.returns
returns c = leaves_leave
