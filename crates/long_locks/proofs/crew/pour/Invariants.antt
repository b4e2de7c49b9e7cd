use Rattle.std.proofs.Common.{◌≡◌, ◌+◌, ◌++◌, ◌≤◌, length}
use Rattle.std.specs.VecDeque.{deque_len, deque_capacity}
use Rattle.long_locks.proofs.crew.pour.Given as goal

abbrev pub decreases-loop-item : goal.decreases-loop-item
decreases-loop-item g l = length l.out

abbrev pub invariant-loop-item : goal.invariant-loop-item
invariant-loop-item g l = record {
  same : l.ready.items ++ l.out ≡ l.initial.ready.items ++ l.initial.out;
  room : deque_len l.ready + length l.out ≤ deque_capacity l.ready;
}
