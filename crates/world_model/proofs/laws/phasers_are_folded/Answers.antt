-- The law that the values of a closed phase stay, and are what looks see.
use Rattle.world_model.proofs.PhasersFolded.{phasers_folded}
use Rattle.world_model.proofs.laws.phasers_are_folded.Goals as goal

pub returns : goal.returns
returns c = phasers_folded
