use Rattle.world_model.proofs.NextsExpected.{nexts_are_expected}
use Rattle.world_model.proofs.laws.nexts_are_expected.Goals as goal

pub returns : goal.returns
returns c = nexts_are_expected
