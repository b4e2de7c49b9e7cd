use Rattle.phase_model.proofs.SingleOrder.{singles_stand_between}
use Rattle.phase_model.proofs.single_laws.singles_stand_between.Goals as goal

pub returns : goal.returns
returns c = singles_stand_between
