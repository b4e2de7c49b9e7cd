use Rattle.phase_model.proofs.SingleReplies.{singles_have_room}
use Rattle.phase_model.proofs.single_laws.singles_have_room.Goals as goal

pub returns : goal.returns
returns c = singles_have_room
