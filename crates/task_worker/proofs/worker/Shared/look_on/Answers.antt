use Rattle.std.proofs.Common.{ℕ, ◌≡◌, is_ok, refl, sym, ap, subst, ◌∙◌}
use Rattle.phase_model.specs.declared.call.Call.TheVariants as calls
use Rattle.phase_model.specs.declared.history.Event.TheVariants as events
use Rattle.phase_model.specs.declared.op.Look.TheVariants.{Nothing}
use Rattle.phase_model.specs.Rules.{Story}
use Rattle.phase_model.specs.Answers.{look_result}
use Rattle.long_locks.specs.Told.{HasLooked}
use Rattle.told_history.specs.Stories.{GoesOn}
use Rattle.table_receipts.specs.Seen.{story_at}
use Rattle.told_history.proofs.Goes.{answered_goes}
use Rattle.tasks_in_flight.specs.Heard.{look}
use Rattle.tasks_in_flight.proofs.Saying.{shows_kept}
use Rattle.world_model.specs.declared.event.WorldEvent.TheVariants.{Phaser}
use Rattle.world_model.specs.declared.event.Step.TheVariants as steps
use Rattle.task_standing.specs.Known.{Known}
use Rattle.task_standing.specs.Noted.{noted}
use Rattle.task_worker.specs.inner.Driven.{IsReplied}
use Rattle.task_worker.proofs.Posted.{call_posts}
use Rattle.task_worker.proofs.Replied.{look_replied}
use Rattle.task_worker.proofs.worker.Shared.look_on.Goals as goal

pub looked-requires-clause-asked : goal.looked-requires-clause-asked
looked-requires-clause-asked g c =
    let old = c.args.task.now in
    let mid = c.front-me.new.self in
    let n = c.args.phaser in
    let a = c.args.accumulator in
    let t = c.number-reader.result in
    let now = c.look.new.me.story in
    let own : t ≡ mid.log.task = c.number-reader.ensures.log ∙ sym c.front-me.ensures.task in (
      a,
      subst (λ (m : ℕ). HasLooked now.terms.ops m a now.past c.in_ok-seen.seen) own c.in_ok-seen.ensures.seen,
      shows_kept g.B.Body.shows old.body mid.body old.log.task mid.log.task (look n a) old.fronts mid.fronts old.standing mid.standing old.log.log mid.log.log
          c.front-me.ensures.body c.front-me.ensures.task c.front-me.ensures.fronts c.front-me.ensures.standing
          (ap (λ d. d.log) c.front-me.ensures.log_kept) c.requires.says,
    )

pub looked-requires-clause-more : goal.looked-requires-clause-more
looked-requires-clause-more g c =
    let old = c.args.task.now in
    let mid = c.front-me.new.self in
    let n = c.args.phaser in
    let before = c.front-me.result.story in
    let there : before ≡ story_at mid.fronts n =
    c.front-me.ensures.story
    ∙ (ap (λ (k : ℕ). story_at old.fronts k) c.in_ok-number.ensures.same ∙ sym (ap (λ xs. story_at xs n) c.front-me.ensures.fronts)) in
    subst (λ (s : Story). GoesOn s c.look.new.me.story) there
    (answered_goes (λ _ r. c.look.result ≡ look_result r) (calls.Look c.number-reader.result c.args.accumulator) before c.look.new.me.story c.look.ensures.told)

pub returns-clause-acted : goal.returns-clause-acted
returns-clause-acted g c =
    let old = c.args.task.now in
    let n = c.args.phaser in
    let a = c.args.accumulator in
    let t = c.number-reader.result in
    let before = c.front-me.result.story in
    let now = c.look.new.me.story in
    let there : before ≡ story_at old.fronts n = c.front-me.ensures.story ∙ ap (λ (k : ℕ). story_at old.fronts k) c.in_ok-number.ensures.same in
    let e = Phaser n (steps.Look old.standing.number a) in (
      e,
      refl,
      subst (λ (u : ℕ). IsReplied (story_at old.fronts n) (steps.Look u a)) c.number-reader.ensures.standing
          (subst (λ (s : Story). IsReplied s (steps.Look t a)) there (look_replied c.in_ok-seen.seen before now t a c.in_ok-seen.ensures.told
          c.is_legal.ensures.legal)),
      c.looked.ensures.acted ∙ ap (λ (k : Known). noted e k) c.front-me.ensures.standing,
    )

pub returns-in_err-seen-clause-posted : goal.returns-in_err-seen-clause-posted
returns-in_err-seen-clause-posted g c =
    call_posts (is_ok c.look.result) (events.Look c.number-reader.result c.args.accumulator Nothing) c.args.by.now.mine c.look.new.by.mine
    (c.look.ensures.mine Nothing)

pub returns-clause-posted : goal.returns-clause-posted
returns-clause-posted g c =
    call_posts (is_ok c.look.result) (events.Look c.number-reader.result c.args.accumulator Nothing) c.args.by.now.mine c.look.new.by.mine
    (c.look.ensures.mine Nothing)
