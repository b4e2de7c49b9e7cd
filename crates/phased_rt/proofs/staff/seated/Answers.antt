use Rattle.std.proofs.Common.{sym, ◌∙◌, arith}
use Rattle.std.proofs.lemmas.List.{map-id}
use Rattle.std.proofs.lemmas.Iterator.Adapters.{YieldsList-from_vec}
use Rattle.std.proofs.lemmas.Iterator.Consumers.{YieldsList-turn, YieldsList-end}
use Rattle.phased_rt.proofs.staff.seated.Goals as goal

pub unreachable-requires : goal.unreachable-requires
unreachable-requires g c =
    let seats = c.args.seats in
    let gives = c.into_iter-seat-iterator.ensures.into_iter_gives in
    let turn = YieldsList-turn (YieldsList-from_vec seats.items gives.0 (gives.1 ∙ seats.ok.0))
    c.loop-seat.yielded c.loop-seat.seat-iterator c.loop-seat.yielded_by
    c.next.result c.next.new.self c.in-Some.seat c.in-Some.is c.next.ensures.steps in
    absurd (omega (arith, turn.0, c.in_default.ensures.cases.0, c.loop-seat.invariant.shares, c.requires, seats.ok.0))

pub returns-clause-staff : goal.returns-clause-staff
returns-clause-staff g c =
    let seats = c.args.seats in
    let gives = c.into_iter-seat-iterator.ensures.into_iter_gives in
    let end = YieldsList-end (YieldsList-from_vec seats.items gives.0 (gives.1 ∙ seats.ok.0))
    c.loop-seat.yielded c.loop-seat.seat-iterator c.loop-seat.yielded_by
    c.next.result c.next.new.self c.in-None.is c.next.ensures.steps in
    c.loop-seat.invariant.seats ∙ (sym (map-id c.loop-seat.yielded) ∙ end.0)

pub returns-clause-number : goal.returns-clause-number
returns-clause-number g c =
    let seats = c.args.seats in
    let gives = c.into_iter-seat-iterator.ensures.into_iter_gives in
    let end = YieldsList-end (YieldsList-from_vec seats.items gives.0 (gives.1 ∙ seats.ok.0))
    c.loop-seat.yielded c.loop-seat.seat-iterator c.loop-seat.yielded_by
    c.next.result c.next.new.self c.in-None.is c.next.ensures.steps in
    omega (arith, c.loop-seat.invariant.number, end.1, seats.ok)
