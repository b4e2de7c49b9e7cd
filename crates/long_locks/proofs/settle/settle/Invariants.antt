use Rattle.std.proofs.Common.{◌≡◌, ◌+◌, ◌*◌, ◌≤◌}
use Rattle.std.specs.VecDeque.{deque_capacity}
use Rattle.long_locks.specs.Turns.{standing}
use Rattle.long_locks.proofs.Steps.{weight}
use Rattle.long_locks.proofs.Going.{IsGoing}
use Rattle.long_locks.proofs.settle.settle.Given as goal

abbrev pub invariant-loop-ahead : goal.invariant-loop-ahead
invariant-loop-ahead l = record {
  going : IsGoing (standing l.initial.state.story l.initial.parked.items l.initial.freed)
      (standing l.state.story l.parked.items l.freed) l.ahead;
  next : l.state.next ≡ l.initial.state.next;
  seats : 256 ≤ deque_capacity l.parked;
}

abbrev pub decreases-loop-ahead : goal.decreases-loop-ahead
decreases-loop-ahead l = 257 * weight l.parked.items + l.ahead
