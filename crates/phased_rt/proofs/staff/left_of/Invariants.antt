use Rattle.std.proofs.Common.{◌≡◌, length, vec_len}
use Rattle.phased_rt.specs.inner.Back.{AreSeatsIn}
use Rattle.phased_rt.proofs.staff.left_of.Given as goal

abbrev pub invariant-loop-worker : goal.invariant-loop-worker
invariant-loop-worker g l = record {
  seats : AreSeatsIn (λ w. w.hand.seat) l.yielded l.left.seats.items;
  shares : vec_len l.left.shares ≡ length l.yielded;
}
