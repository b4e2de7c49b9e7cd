-- Whether one of those that were come to is on the phaser.
use Rattle.std.proofs.Common.{◌≡◌, take}
use Rattle.std.specs.List.{list_any}
use Rattle.world_model.specs.ActConditions.{pair_names}
use Rattle.world_core.proofs.tables.may_spawn.is_among.Given as goal

abbrev pub invariant-loop-i : goal.invariant-loop-i
invariant-loop-i l = l.any ≡ list_any (pair_names l.phaser) (take l.i l.pairs)
