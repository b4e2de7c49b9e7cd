use Rattle.std.proofs.Common.{refl, sym, ◌∙◌, ap}
use Rattle.phase_modes.specs.Refusal.{number_of}
use Rattle.trace_model.specs.declared.event.TracedEvent.TheVariants.{Fail}
use Rattle.task_standing.specs.declared.plan.Plan.TheVariants.{Ending}
use Rattle.tasks_in_flight.specs.Heard.{ends}
use Rattle.tasks_in_flight.specs.inner.Ready.{seen_by}
use Rattle.tasks_in_flight.proofs.OnTheWay.{pending_at_end}
use Rattle.tasks_in_flight.proofs.Saying.{ready_moves, ready_at, ready_kept, says_kept, says_more, more_noted, log_stays, says_known}
use Rattle.task_standing.specs.Known.{Known}
use Rattle.tasks_in_flight.proofs.task.Task.fail.Goals as goal

-- where there was no room nothing has changed
pub invariant_of-self : goal.invariant_of-self
invariant_of-self g c =
    let old = c.args.self.now in
    let k = old.standing in
    let own = c.note_failed.new.self in
    let same = log_stays (c.args.ticket, Fail old.log.task (number_of c.args.refusal)) old.log.log own.log c.note_failed.result c.in-Err.full c.in-Err.is c.note_failed.ensures.noted in
    record {
      own = old.own ∙ sym c.note_failed.ensures.task;
      all = old.all;
      ready = ready_kept g.B.Body.shows old.body old.log.task own.task k.plan old.answer old.fronts k old.log.log own.log c.note_failed.ensures.task same old.ready;
      end = λ ended. says_kept g.B.Body.shows old.body old.log.task own.task ends (seen_by old.fronts k own.log) c.note_failed.ensures.task
          (says_more g.B.Body.shows old.body old.log.task ends (seen_by old.fronts k old.log.log) (seen_by old.fronts k own.log)
          (more_noted old.fronts k k (c.args.ticket, Fail old.log.task (number_of c.args.refusal)) old.log.log own.log c.note_failed.result refl c.note_failed.ensures.noted)
          (old.end (c.note_failed.ensures.end ended)));
    }

pub invariant_of-self-2-clause-ready : goal.invariant_of-self-2-clause-ready
invariant_of-self-2-clause-ready g c =
    let old = c.args.self.now in
    let k = old.standing in
    let k' = record k { plan = Ending } in
    let own = c.note_failed.new.self in
    let now = seen_by old.fronts k old.log.log in
    ready_at g.B.Body.shows old.body own.task old.answer old.fronts k' c.give_up.new.self own.log c.give_up.ensures
    (ready_kept g.B.Body.shows old.body old.log.task own.task Ending old.answer old.fronts k' own.log own.log c.note_failed.ensures.task refl
    (ready_moves g.B.Body.shows old.body old.log.task k.plan Ending old.answer now (seen_by old.fronts k' own.log)
    (more_noted old.fronts k k' (c.args.ticket, Fail old.log.task (number_of c.args.refusal)) old.log.log own.log c.note_failed.result refl c.note_failed.ensures.noted)
    (λ asked seen goes is. pending_at_end old.log.task seen (seen_by old.fronts k' own.log) asked old.answer)
    old.ready))

pub invariant_of-self-2-clause-end : goal.invariant_of-self-2-clause-end
invariant_of-self-2-clause-end g c = λ ended.
    let old = c.args.self.now in
    let k = old.standing in
    let own = c.note_failed.new.self in
    says_known g.B.Body.shows old.body own.task ends old.fronts k c.give_up.new.self own.log (ap (λ (k : Known). k.number) c.give_up.ensures)
    (says_kept g.B.Body.shows old.body old.log.task own.task ends (seen_by old.fronts k own.log) c.note_failed.ensures.task
    (says_more g.B.Body.shows old.body old.log.task ends (seen_by old.fronts k old.log.log) (seen_by old.fronts k own.log)
    (more_noted old.fronts k k (c.args.ticket, Fail old.log.task (number_of c.args.refusal)) old.log.log own.log c.note_failed.result refl c.note_failed.ensures.noted)
    (old.end (c.note_failed.ensures.end ended))))
