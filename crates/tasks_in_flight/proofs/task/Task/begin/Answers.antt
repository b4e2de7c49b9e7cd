use Rattle.std.proofs.Common.{None, refl, sym, ap, subst, ◌∙◌, inl, inr, Option}
use Rattle.trace_model.specs.declared.event.TracedEvent.TheVariants.{Begin}
use Rattle.job_script.specs.declared.act.Answer.{Answer}
use Rattle.task_standing.specs.declared.plan.Plan.{Plan}
use Rattle.task_standing.specs.Noted.{plan_of}
use Rattle.task_standing.specs.Standing.{begun}
use Rattle.tasks_in_flight.specs.Heard.{ends}
use Rattle.tasks_in_flight.specs.inner.Ready.{IsReady, answer_of, seen_by}
use Rattle.tasks_in_flight.proofs.Saying.{begun_number, ready_begun, ready_at, ready_kept, says_end, says_kept, says_more, more_noted, log_stays, log_has, says_known}
use Rattle.task_standing.specs.Known.{Known}
use Rattle.tasks_in_flight.proofs.task.Task.begin.Goals as goal

-- where there was no room nothing has changed
pub invariant_of-self : goal.invariant_of-self
invariant_of-self g c =
    let old = c.args.self.now in
    let k = old.standing in
    let own = c.note_begun.new.self in
    let same = log_stays (c.args.ticket, Begin old.log.task c.args.act) old.log.log own.log c.note_begun.result c.in-Err.full c.in-Err.is c.note_begun.ensures.noted in
    record {
      own = old.own ∙ sym c.note_begun.ensures.task;
      all = old.all;
      ready = ready_kept g.B.Body.shows old.body old.log.task own.task k.plan old.answer old.fronts k old.log.log own.log c.note_begun.ensures.task same old.ready;
      end = λ ended. says_kept g.B.Body.shows old.body old.log.task own.task ends (seen_by old.fronts k own.log) c.note_begun.ensures.task
          (says_more g.B.Body.shows old.body old.log.task ends (seen_by old.fronts k old.log.log) (seen_by old.fronts k own.log)
          (more_noted old.fronts k k (c.args.ticket, Begin old.log.task c.args.act) old.log.log own.log c.note_begun.result refl c.note_begun.ensures.noted)
          (elim (c.note_begun.ensures.end ended) [
            | inl before ↦ old.end before
            | inr is ↦ says_end g.B.Body.shows old.body old.log.task c.args.act (seen_by old.fronts k old.log.log) is c.requires.asked
          ]));
    }

pub invariant_of-self-2-clause-ready : goal.invariant_of-self-2-clause-ready
invariant_of-self-2-clause-ready g c =
    let old = c.args.self.now in
    let k = old.standing in
    let act = c.args.act in
    let own = c.note_begun.new.self in
    let same = c.begin.ensures ∙ ap (λ (p : Plan). begun p k) c.of.ensures in
    ready_at g.B.Body.shows old.body own.task c.answer_to-self.result old.fronts (begun (plan_of act) k) c.begin.new.self own.log same
    (subst (λ (a : Option Answer). ∥ (g.K.Supposing.supposed → IsReady g.B.Body.shows None old.body own.task (begun (plan_of act) k).plan a (seen_by old.fronts (begun (plan_of act) k) own.log)) ∥₁)
    (sym c.answer_to-self.ensures)
    (ready_kept g.B.Body.shows old.body old.log.task own.task (begun (plan_of act) k).plan (answer_of act) old.fronts (begun (plan_of act) k) own.log own.log
    c.note_begun.ensures.task refl
    (ready_begun g.B.Body.shows old.body old.log.task act old.fronts k old.log.log own.log
    (log_has (c.args.ticket, Begin old.log.task act) old.log.log own.log c.in_default.ensures.noted) c.requires.asked)))

pub invariant_of-self-2-clause-end : goal.invariant_of-self-2-clause-end
invariant_of-self-2-clause-end g c = λ ended.
    let old = c.args.self.now in
    let k = old.standing in
    let own = c.note_begun.new.self in
    says_known g.B.Body.shows old.body own.task ends old.fronts k c.begin.new.self own.log (ap (λ (k : Known). k.number) c.begin.ensures ∙ begun_number c.of.result k)
    (says_kept g.B.Body.shows old.body old.log.task own.task ends (seen_by old.fronts k own.log) c.note_begun.ensures.task
    (says_more g.B.Body.shows old.body old.log.task ends (seen_by old.fronts k old.log.log) (seen_by old.fronts k own.log)
    (more_noted old.fronts k k (c.args.ticket, Begin old.log.task c.args.act) old.log.log own.log c.note_begun.result refl c.note_begun.ensures.noted)
    (elim (c.note_begun.ensures.end ended) [
      | inl before ↦ old.end before
      | inr is ↦ says_end g.B.Body.shows old.body old.log.task c.args.act (seen_by old.fronts k old.log.log) is c.requires.asked
    ])))
