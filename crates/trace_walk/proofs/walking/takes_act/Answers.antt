use Rattle.std.proofs.Common.{◌≡◌, true, List, Option, take, reverse, sym, ap, subst, ◌∙◌}
use Rattle.job_script.specs.declared.act.Answer.{Answer}
use Rattle.trace_walk.specs.Scripts.{Made, act_of, is_of}
use Rattle.trace_model.specs.Explained.{event_of}
use Rattle.trace_model.specs.Run.{Entry}
use Rattle.trace_model.specs.Views.{viewed}
use Rattle.trace_walk.specs.History.{history}
use Rattle.trace_walk.specs.Walking.{act_due, gone_on, is_due, told_by}
use Rattle.trace_walk.specs.inner.Seats.{seat_of}
use Rattle.trace_walk.proofs.Events.{acted, eq_self}
use Rattle.trace_walk.proofs.Places.{past_reversed}
use Rattle.trace_walk.proofs.Seating.{act_told, due_given}
use Rattle.trace_walk.proofs.walking.takes_act.Goals as goal

pub returns-then-not-is_given-clause-taken : goal.returns-then-not-is_given-clause-taken
returns-then-not-is_given-clause-taken g c = λ root told.
    let e = viewed c.args.event in
    let xs : List Entry = take c.args.count c.args.trace.now.events in
    let made = acted (act_of (event_of e)) c.args.task c.requires.own in
    let m : Made = record { task = c.args.task; act = made.0 } in
    sym (due_given g.B.Goes.next root (reverse xs) (history xs) m (act_of (event_of e)) c.next_act-act.result
    (sym (past_reversed xs)) (c.next_act-act.ensures.act ∙ ap (λ s. act_due g.B.Goes.next s) (told c.args.task)) made.1)
    ∙ (sym c.is_given.ensures ∙ c.if-not-is_given.true)

pub returns-clause-taken : goal.returns-clause-taken
returns-clause-taken g c = λ root told.
    let e = viewed c.args.event in
    let xs : List Entry = take c.args.count c.args.trace.now.events in
    let made = acted (act_of (event_of e)) c.args.task c.requires.own in
    let m : Made = record { task = c.args.task; act = made.0 } in
    let due : is_due g.B.Goes.next root (reverse xs) (act_of (event_of e)) ≡ true =
    sym (due_given g.B.Goes.next root (reverse xs) (history xs) m (act_of (event_of e)) c.next_act-act.result
    (sym (past_reversed xs)) (c.next_act-act.ensures.act ∙ ap (λ s. act_due g.B.Goes.next s) (told c.args.task)) made.1)
    ∙ (sym c.is_given.ensures ∙ c.if-not-is_given.false) in
    let of : is_of c.args.task (act_of (event_of e)) ≡ true =
    subst (λ (o : Option Made). is_of c.args.task o ≡ true) (sym made.1) (eq_self c.args.task) in
    let own : seat_of c.next_act-act.new.self.seats c.args.task
    ≡ gone_on g.B.Goes.next (told_by e) (seat_of c.args.seats.now.seats c.args.task) =
    c.next_act-act.ensures.own
    ∙ ap (λ (a : Answer). gone_on g.B.Goes.next a (seat_of c.args.seats.now.seats c.args.task)) c.answer_to.ensures in (
      due,
      act_told g.B.Goes.next root (reverse xs) e c.args.task c.next_act-act.result (seat_of c.args.seats.now.seats)
          (seat_of c.next_act-act.new.self.seats) (seat_of c.seat_child.new.seats.seats) told c.next_act-act.ensures.act own
          c.next_act-act.ensures.others c.in_ok-seat_child.ensures.given of due,
    )
