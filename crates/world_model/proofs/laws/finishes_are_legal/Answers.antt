use Rattle.world_model.proofs.FinishesLegal.{finishes_legal}
use Rattle.world_model.proofs.laws.finishes_are_legal.Goals as goal

pub returns : goal.returns
returns c = finishes_legal
