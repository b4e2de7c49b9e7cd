-- What is known of those that were come to is marked, and the rest stands as it was.
use Rattle.std.proofs.Common.{◌≡◌, ◌++◌, map, take, drop}
use Rattle.task_standing.specs.Standing.{marked}
use Rattle.task_standing.proofs.standing.mark.Given as goal

abbrev pub invariant-loop-i : goal.invariant-loop-i
invariant-loop-i l =
    l.holding ≡ map (marked l.phaser l.ahead) (take l.i l.initial.holding) ++ drop l.i l.initial.holding
