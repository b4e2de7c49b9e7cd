use Rattle.world_model.proofs.ShutsLeaveNobody.{shuts_leave_nobody}
use Rattle.world_model.proofs.laws.shuts_leave_nobody.Goals as goal

pub returns : goal.returns
returns c = shuts_leave_nobody
