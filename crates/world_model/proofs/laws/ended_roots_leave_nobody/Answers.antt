-- The law that nobody is left where the root has ended.
use Rattle.world_model.proofs.RootEndsLast.{ended_roots_leave_nobody}
use Rattle.world_model.proofs.laws.ended_roots_leave_nobody.Goals as goal

pub returns : goal.returns
returns c = ended_roots_leave_nobody
