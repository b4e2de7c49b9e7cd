-- The phasers that were come to are named.
use Rattle.std.proofs.Common.{◌≡◌, map, take}
use Rattle.task_standing.specs.Standing.{pair_of}
use Rattle.task_standing.proofs.standing.Standing.pairs.Given as goal

abbrev pub invariant-loop-i : goal.invariant-loop-i
invariant-loop-i l = l.pairs ≡ map pair_of (take l.i l.self.holding)
