use Rattle.world_model.proofs.HeldAreFew.{phasers_held_are_few}
use Rattle.world_model.proofs.laws.phasers_held_are_few.Goals as goal

pub returns : goal.returns
returns c = phasers_held_are_few
