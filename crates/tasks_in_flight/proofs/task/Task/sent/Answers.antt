use Rattle.std.proofs.Common.{ℕ, refl, sym, subst, Some, ap}
use Rattle.phase_model.specs.Rules.{Story}
use Rattle.job_script.specs.declared.act.Answer.TheVariants.{Done}
use Rattle.table_receipts.specs.Seen.{story_at}
use Rattle.table_receipts.proofs.Stories.{seen_more}
use Rattle.task_standing.specs.Standing.{acted}
use Rattle.tasks_in_flight.specs.Heard.{send, HasSent, ends}
use Rattle.tasks_in_flight.specs.inner.Ready.{seen_by}
use Rattle.tasks_in_flight.proofs.Saying.{ready_since, ready_at, more_stories, says_more, says_known}
use Rattle.task_standing.specs.Known.{Known}
use Rattle.tasks_in_flight.proofs.task.Task.sent.Goals as goal

pub invariant_of-self-clause-ready : goal.invariant_of-self-clause-ready
invariant_of-self-clause-ready g c =
    let old = c.args.self.now in
    let ys = c.set.new.self in
    let n = c.args.phaser in
    let more = seen_more old.fronts old.fronts ys n n (story_at old.fronts n) c.args.seen.story refl refl refl c.set.ensures.here c.set.ensures.others c.requires.more in
    let k = old.standing in
    let now = seen_by old.fronts k old.log.log in
    let asked = c.requires.asked in
    let sent =
    subst (λ (t : ℕ). HasSent t asked.0 asked.1 (story_at old.fronts n) (story_at ys n)) (sym old.own)
    (subst (λ (s : Story). HasSent old.log.task asked.0 asked.1 (story_at old.fronts n) s) (sym c.set.ensures.here) asked.2) in
    ready_at g.B.Body.shows old.body old.log.task (Some Done) ys (acted k) c.note_act.new.self old.log.log c.note_act.ensures.acted
    (ready_since g.B.Body.shows old.body old.log.task (acted k).plan (send n asked.0 asked.1) (Some Done) now (seen_by ys (acted k) old.log.log)
    (more_stories now (λ m. story_at ys m) k.holding more.0)
    (λ lives. ((sent, (refl, refl)), refl))
    asked.3)

pub invariant_of-self-clause-end : goal.invariant_of-self-clause-end
invariant_of-self-clause-end g c = λ ended.
    let old = c.args.self.now in
    let ys = c.set.new.self in
    let n = c.args.phaser in
    let more = seen_more old.fronts old.fronts ys n n (story_at old.fronts n) c.args.seen.story refl refl refl c.set.ensures.here c.set.ensures.others c.requires.more in
    says_known g.B.Body.shows old.body old.log.task ends ys old.standing c.note_act.new.self old.log.log (ap (λ (k : Known). k.number) c.note_act.ensures.acted)
    (says_more g.B.Body.shows old.body old.log.task ends (seen_by old.fronts old.standing old.log.log) (seen_by ys old.standing old.log.log)
    (more_stories (seen_by old.fronts old.standing old.log.log) (λ m. story_at ys m) old.standing.holding more.0) (old.end ended))
