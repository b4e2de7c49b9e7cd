use Rattle.phase_model.proofs.SingleReplies.{singles_are_answered}
use Rattle.phase_model.proofs.single_laws.singles_are_answered.Goals as goal

pub returns : goal.returns
returns c = singles_are_answered
