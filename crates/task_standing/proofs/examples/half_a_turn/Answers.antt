-- The worked example, computed.
use Rattle.task_standing.proofs.Computed.{half_a_turn}
use Rattle.task_standing.proofs.examples.half_a_turn.Goals as goal

pub returns : goal.returns
returns c = half_a_turn
