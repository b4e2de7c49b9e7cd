use Rattle.task_standing.proofs.Alike.{singles_leave}
use Rattle.task_standing.proofs.laws.singles_leave.Goals as goal

pub returns : goal.returns
returns c = singles_leave
