use Rattle.phaser_engine.proofs.Lazy.{late_folds}
use Rattle.phaser_engine.proofs.laws.late_folds_are_folds.Goals as goal

pub returns : goal.returns
returns c = late_folds
