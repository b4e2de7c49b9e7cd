use Rattle.world_model.proofs.NeverStuck.{nobody_is_stuck}
use Rattle.world_model.proofs.laws.nobody_is_stuck.Goals as goal

pub returns : goal.returns
returns c = nobody_is_stuck
