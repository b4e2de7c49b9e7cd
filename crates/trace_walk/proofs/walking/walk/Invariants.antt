use Rattle.std.proofs.Common.{◌≡◌, [], reverse, take, drop}
use Rattle.trace_walk.specs.Walking.{first_astray}
use Rattle.trace_walk.specs.inner.Seats.{seat_of, AreTold}
use Rattle.trace_walk.proofs.walking.walk.Given as goal

abbrev pub invariant-loop-i : goal.invariant-loop-i
invariant-loop-i g l = record {
  told : AreTold g.B.Goes.next l.fn.root (reverse (take l.i l.trace.events)) (seat_of l.seats.seats);
  so_far : first_astray g.B.Goes.next l.fn.root (reverse (take l.i l.trace.events)) l.i (drop l.i l.trace.events) ≡
      first_astray g.B.Goes.next l.fn.root [] 0 l.trace.events;
}
