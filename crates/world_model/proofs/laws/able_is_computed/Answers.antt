use Rattle.world_model.proofs.AbleComputed.{able_is_computed}
use Rattle.world_model.proofs.laws.able_is_computed.Goals as goal

pub returns : goal.returns
returns c = able_is_computed
