use Rattle.std.proofs.Common.{◌≡◌, length}
use Rattle.table_receipts.specs.Seen.{IsNamed}
use Rattle.table_receipts.proofs.fronts.Fronts.of.Given as goal

abbrev pub invariant-loop-phaser : goal.invariant-loop-phaser
invariant-loop-phaser g l = (length l.fronts.items ≡ l.phaser) × IsNamed g.K.Logs.logs l.fronts.items
