use Rattle.level_phaser.proofs.LevelRounds.{level_round}
use Rattle.level_phaser.proofs.round_laws.level_round.Goals as goal

pub returns : goal.returns
returns c = level_round
