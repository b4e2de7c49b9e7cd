use Rattle.std.proofs.Common.{◌≡◌, ◌+◌, length, map, vec_len}
use Rattle.phased_rt.proofs.staff.seated.Given as goal

abbrev pub invariant-loop-seat : goal.invariant-loop-seat
invariant-loop-seat g l = record {
  can_next : (goal.iterator-loop-seat g).can_next l.seat-iterator;
  is_finite : (goal.iterator-loop-seat g).is_finite l.seat-iterator;
  seats : map (λ w. w.hand.seat) l.staff.items ≡ l.yielded;
  number : vec_len l.staff ≡ length l.yielded;
  shares : vec_len l.shares + length l.yielded ≡ vec_len l.initial.shares;
}
