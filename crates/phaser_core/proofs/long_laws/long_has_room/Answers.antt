use Rattle.phaser_core.proofs.Roomy.{long_has_room}
use Rattle.phaser_core.proofs.long_laws.long_has_room.Goals as goal

pub returns : goal.returns
returns c = long_has_room
