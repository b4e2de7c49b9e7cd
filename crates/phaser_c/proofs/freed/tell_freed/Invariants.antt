use Rattle.std.proofs.Common.{◌≡◌, ◌++◌, List, length, map, drop}
use Rattle.long_locks.specs.declared.answer.Freed.{Freed}
use Rattle.phaser_c.specs.Freed.{given_freed}
use Rattle.phaser_c.proofs.freed.tell_freed.Given as goal

abbrev pub invariant-loop-next : goal.invariant-loop-next
invariant-loop-next l =
    (done : List Freed) × (l.initial.freed ≡ done ++ l.freed) × (length done ≡ l.told)
    × (l.room ≡ map given_freed done ++ drop (length done) l.initial.room)

abbrev pub decreases-loop-next : goal.decreases-loop-next
decreases-loop-next l = length l.freed
