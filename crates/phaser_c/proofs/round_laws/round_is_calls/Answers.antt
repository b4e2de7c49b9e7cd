use Rattle.phaser_c.proofs.CalledRounds.{round_is_calls}
use Rattle.phaser_c.proofs.round_laws.round_is_calls.Goals as goal

pub returns : goal.returns
returns c = round_is_calls
