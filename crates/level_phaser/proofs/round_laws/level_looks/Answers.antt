use Rattle.level_phaser.proofs.Looks.{level_looks}
use Rattle.level_phaser.proofs.round_laws.level_looks.Goals as goal

pub returns : goal.returns
returns c = level_looks
