use Rattle.world_model.proofs.PhasersLegal.{phasers_ordered}
use Rattle.world_model.proofs.laws.phasers_are_ordered.Goals as goal

pub returns : goal.returns
returns c = phasers_ordered
