use Rattle.std.proofs.Common.{◌≡◌, [], length, drop}
use Rattle.phaser_c.specs.Given.{with_ops}
use Rattle.phaser_c.proofs.given.ops_of.Given as goal

abbrev pub invariant-loop-number : goal.invariant-loop-number
invariant-loop-number l =
    (length l.ops ≡ l.number-index)
    × (with_ops l.ops (drop l.number-index l.numbers) ≡ with_ops [] l.numbers)
