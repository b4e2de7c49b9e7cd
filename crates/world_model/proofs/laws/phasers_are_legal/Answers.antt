use Rattle.world_model.proofs.PhasersLegal.{phasers_legal}
use Rattle.world_model.proofs.laws.phasers_are_legal.Goals as goal

pub returns : goal.returns
returns c = phasers_legal
