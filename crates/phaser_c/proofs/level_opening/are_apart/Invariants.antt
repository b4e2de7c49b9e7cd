use Rattle.std.proofs.Common.{◌≡◌, drop}
use Rattle.level_phaser.specs.Keeping.{are_apart}
use Rattle.phaser_c.proofs.level_opening.are_apart.Given as goal

abbrev pub invariant-loop-at : goal.invariant-loop-at
invariant-loop-at l = are_apart (drop l.at l.tasks) ≡ are_apart l.tasks
