use Rattle.std.proofs.Common.{◌∷◌, ◌++◌, [], refl, ap, length-append, arith}
use Rattle.phased_rt.proofs.Seats.{one_more_in}
use Rattle.phased_rt.proofs.staff.left_of.Goals as goal

pub loop-worker-init : goal.loop-worker-init
loop-worker-init g c = record {
  seats = ([], refl, c.new.ensures.items);
  shares = omega (arith, c.new-2.ensures.len);
}

pub loop-worker-preserved : goal.loop-worker-preserved
loop-worker-preserved g c =
    let before = c.loop-worker.yielded in
    let one = c.in-Some.worker ∷ [] in
    record {
      seats = one_more_in (λ w. w.hand.seat) before (before ++ one) c.loop-worker.left.seats.items c.take_back.new.left.seats.items c.in_ok-worker.field-0
          (ap (λ r. before ++ r ∷ []) c.in_ok-worker.was) c.in_ok-take_back.ensures.seats c.loop-worker.invariant.seats;
      shares = omega (arith, length-append before one, c.in_ok-take_back.ensures.shares, c.loop-worker.invariant.shares);
    }
