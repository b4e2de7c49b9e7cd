use Rattle.std.proofs.Common.{map, arith}
use Rattle.std.proofs.lemmas.Result.{IfOk-weaker}
use Rattle.phased_rt.specs.inner.Back.{AreBack, AreSeatsIn}
use Rattle.phased_rt.proofs.Seats.{back_from}
use Rattle.phased_rt.proofs.staff.work_all.Goals as goal

pub returns-clause-seats : goal.returns-clause-seats
returns-clause-seats g c =
    let staff = c.args.staff in
    let done = c.in_ok-done.done in
    IfOk-weaker c.left_of.result (λ l. AreSeatsIn (λ w. w.hand.seat) done.items l.seats.items) (λ l. AreBack (map (λ w. w.hand.seat) staff.items) l.seats.items)
    (λ l are.
    back_from (λ w. w.hand.seat) staff.items done.items l.seats.items (omega (arith, c.in_ok-done.ensures.number, staff.ok, done.ok)) are
    (λ i d r lt. c.in_ok-done.ensures.stays i d r (omega (arith, lt, staff.ok))))
    c.left_of.ensures.seats
