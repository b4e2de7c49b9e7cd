use Rattle.std.proofs.Common.{refl, ap, ◌∙◌, Some, ◌∷◌}
use Rattle.job_script.specs.declared.act.Answer.TheVariants.{Done}
use Rattle.task_standing.specs.Known.{Known}
use Rattle.task_standing.specs.Standing.{acted}
use Rattle.tasks_in_flight.specs.Heard.{opens, ends}
use Rattle.tasks_in_flight.specs.inner.Ready.{seen_by}
use Rattle.tasks_in_flight.proofs.OnTheWay.{sees_itself}
use Rattle.tasks_in_flight.proofs.Saying.{ready_since, ready_at, says_known}
use Rattle.tasks_in_flight.proofs.task.Task.opened.Goals as goal

pub invariant_of-self : goal.invariant_of-self
invariant_of-self g c =
    let old = c.args.self.now in
    let same = c.in-Err.ensures.stays in
    record {
      own = ap (λ (k : Known). k.number) same ∙ old.own;
      all = old.all;
      ready = ready_at g.B.Body.shows old.body old.log.task old.answer old.fronts old.standing c.note_opening.new.self old.log.log same old.ready;
      end = λ ended. says_known g.B.Body.shows old.body old.log.task ends old.fronts old.standing c.note_opening.new.self old.log.log
          (ap (λ (k : Known). k.number) same) (old.end ended);
    }

pub invariant_of-self-2-clause-ready : goal.invariant_of-self-2-clause-ready
invariant_of-self-2-clause-ready g c =
    let old = c.args.self.now in
    let k = old.standing in
    let now = seen_by old.fronts k old.log.log in
    let k' = record (acted k) { finishes = c.args.finish ∷ k.finishes } in
    ready_at g.B.Body.shows old.body old.log.task (Some Done) old.fronts k' c.note_opening.new.self old.log.log c.in_default.ensures.opened
    (ready_since g.B.Body.shows old.body old.log.task k'.plan opens (Some Done) now (seen_by old.fronts k' old.log.log)
    (sees_itself now)
    (λ lives. ((refl, refl), refl))
    c.requires.asked)

pub invariant_of-self-2-clause-end : goal.invariant_of-self-2-clause-end
invariant_of-self-2-clause-end g c = λ ended.
    let old = c.args.self.now in
    says_known g.B.Body.shows old.body old.log.task ends old.fronts old.standing c.note_opening.new.self old.log.log
    (ap (λ (k : Known). k.number) c.in_default.ensures.opened) (old.end ended)
