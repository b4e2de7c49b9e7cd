use Rattle.std.proofs.Common.{ℕ, refl, ap, ◌∙◌, sym, subst, Some, ◌∷◌, [], ◌++◌, false}
use Rattle.std.specs.Prelude.{is_some}
use Rattle.phase_model.specs.Rules.{Story}
use Rattle.job_script.specs.declared.act.Answer.TheVariants.{Made}
use Rattle.table_receipts.specs.Seen.{story_at}
use Rattle.table_receipts.proofs.Stories.{seen_more}
use Rattle.task_standing.specs.Known.{Known}
use Rattle.task_standing.specs.Standing.{acted, inner_of}
use Rattle.tasks_in_flight.specs.Heard.{make, HasMade, ends}
use Rattle.tasks_in_flight.specs.inner.Ready.{seen_by}
use Rattle.tasks_in_flight.proofs.OnTheWay.{none_held}
use Rattle.tasks_in_flight.proofs.Saying.{ready_since, ready_at, more_stories, says_more, says_known}
use Rattle.tasks_in_flight.proofs.task.Task.made.Goals as goal

pub invariant_of-self : goal.invariant_of-self
invariant_of-self g c =
    let old = c.args.self.now in
    let same = c.in-Err.ensures.stays in
    record {
      own = ap (λ (k : Known). k.number) same ∙ old.own;
      all = old.all;
      ready = ready_at g.B.Body.shows old.body old.log.task old.answer old.fronts old.standing c.note_making.new.self old.log.log same old.ready;
      end = λ ended. says_known g.B.Body.shows old.body old.log.task ends old.fronts old.standing c.note_making.new.self old.log.log
          (ap (λ (k : Known). k.number) same) (old.end ended);
    }

pub invariant_of-self-2-clause-ready : goal.invariant_of-self-2-clause-ready
invariant_of-self-2-clause-ready g c =
    let old = c.args.self.now in
    let ys = c.set.new.self in
    let n = c.args.phaser in
    let more = seen_more old.fronts old.fronts ys n n (story_at old.fronts n) c.args.seen.story refl refl refl c.set.ensures.here c.set.ensures.others c.requires.more in
    let k = old.standing in
    let now = seen_by old.fronts k old.log.log in
    let asked = c.requires.asked in
    let made =
    subst (λ (t : ℕ). HasMade t c.args.mode asked.0 (story_at ys n)) (sym old.own)
    (subst (λ (s : Story). HasMade old.log.task c.args.mode asked.0 s) (sym c.set.ensures.here) asked.1) in
    let k' = record (acted k) {
      holding = k.holding ++ record { phaser = n; finish = inner_of k; mode = c.args.mode; ahead = false } ∷ [];
    } in
    let none = none_held k.holding n (ap (λ o. is_some o) (sym c.held.ensures) ∙ (sym c.is_some.ensures ∙ c.if-is_some.false)) in
    ready_at g.B.Body.shows old.body old.log.task (Some (Made n)) ys k' c.note_making.new.self old.log.log c.in_default.ensures.made
    (ready_since g.B.Body.shows old.body old.log.task k'.plan (make c.args.mode asked.0) (Some (Made n)) now (seen_by ys k' old.log.log)
    (more_stories now (λ m. story_at ys m) k'.holding more.0)
    (λ lives. ((made, ((inner_of k, refl), refl), none), refl))
    asked.2)

pub invariant_of-self-2-clause-end : goal.invariant_of-self-2-clause-end
invariant_of-self-2-clause-end g c = λ ended.
    let old = c.args.self.now in
    let ys = c.set.new.self in
    let n = c.args.phaser in
    let more = seen_more old.fronts old.fronts ys n n (story_at old.fronts n) c.args.seen.story refl refl refl c.set.ensures.here c.set.ensures.others c.requires.more in
    says_known g.B.Body.shows old.body old.log.task ends ys old.standing c.note_making.new.self old.log.log (ap (λ (k : Known). k.number) c.in_default.ensures.made)
    (says_more g.B.Body.shows old.body old.log.task ends (seen_by old.fronts old.standing old.log.log) (seen_by ys old.standing old.log.log)
    (more_stories (seen_by old.fronts old.standing old.log.log) (λ m. story_at ys m) old.standing.holding more.0) (old.end ended))
