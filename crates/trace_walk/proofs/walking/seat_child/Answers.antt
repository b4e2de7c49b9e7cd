use Rattle.std.proofs.Common.{◌≡◌, ℕ, Some, sym, ◌∙◌}
use Rattle.std.proofs.lemmas.Result.{IfOk-weaker}
use Rattle.trace_walk.specs.Scripts.{parent_by}
use Rattle.trace_model.specs.Explained.{event_of}
use Rattle.trace_model.specs.Views.{viewed}
use Rattle.trace_walk.specs.inner.Seats.{seat_of, child_named, body_handed, seat_given, IsSeated}
use Rattle.trace_walk.proofs.Seating.{given_none, given_nothing, given_child}
use Rattle.trace_walk.proofs.walking.seat_child.Goals as goal

pub returns-in_default-clause-given : goal.returns-in_default-clause-given
returns-in_default-clause-given g c =
    given_none (viewed c.args.event) c.args.act (seat_of c.args.seats.now.seats)
    (sym c.child_of.ensures ∙ c.in_default.is)

pub returns-in_default-body_of-clause-given : goal.returns-in_default-body_of-clause-given
returns-in_default-body_of-clause-given g c = λ t.
    given_nothing (parent_by t (event_of (viewed c.args.event))) c.args.act (seat_of c.args.seats.now.seats t)
    (sym c.body_of.ensures ∙ c.in_default-body_of.is)

pub returns-clause-given : goal.returns-clause-given
returns-clause-given g c =
    let e = viewed c.args.event in
    let child : child_named e ≡ Some c.in-Some.child = sym c.child_of.ensures ∙ c.in-Some.is in
    let handed : body_handed c.args.act ≡ Some c.in-Some-body_of.body = sym c.body_of.ensures ∙ c.in-Some-body_of.is in
    IfOk-weaker c.give.result
    (λ _. IsSeated c.in-Some.child c.in-Some-body_of.body (seat_of c.args.seats.now.seats) (seat_of c.give.new.self.seats))
    (λ _. (t : ℕ) → seat_of c.give.new.self.seats t
    ≡ seat_given (parent_by t (event_of e)) c.args.act (seat_of c.args.seats.now.seats t))
    (λ _. given_child e c.args.act c.in-Some.child c.in-Some-body_of.body (seat_of c.args.seats.now.seats)
    (seat_of c.give.new.self.seats) child handed)
    c.give.ensures.seated
