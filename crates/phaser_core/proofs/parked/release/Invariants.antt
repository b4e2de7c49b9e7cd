use Rattle.std.proofs.Common.{◌≡◌, ◌+◌, ◌≤◌, length}
use Rattle.std.specs.VecDeque.{deque_len, deque_capacity}
use Rattle.phaser_core.specs.Parking.{would_park}
use Rattle.phaser_core.proofs.Turns.{Turned}
use Rattle.phaser_core.proofs.parked.release.Given as goal

abbrev pub invariant-loop-turn : goal.invariant-loop-turn
invariant-loop-turn g l = record {
  turned : Turned (λ p. would_park (g.S.Asked.story l.fn.state) p.task p.call) (λ p. p.item) l.initial.parked.items l._turn l.parked.items l.out;
  all : deque_len l.parked + length l.out ≡ deque_len l.initial.parked;
  turns : l.turns ≡ deque_len l.initial.parked;
  seats : 256 ≤ deque_capacity l.parked;
}
