use Rattle.world_model.proofs.ClocksAgree.{clocks_agree}
use Rattle.world_model.proofs.laws.clocks_agree.Goals as goal

pub returns : goal.returns
returns c = clocks_agree
