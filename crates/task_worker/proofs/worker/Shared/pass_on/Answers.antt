use Rattle.std.proofs.Common.{ℕ, ◌≡◌, Some, sym, ap, subst, ◌∙◌}
use Rattle.phase_model.specs.declared.call.Call.TheVariants as calls
use Rattle.phase_model.specs.Rules.{Story}
use Rattle.told_history.specs.Stories.{GoesOn}
use Rattle.table_receipts.specs.Seen.{story_at}
use Rattle.tasks_in_flight.specs.inner.Ready.{HasJustPassed, IsDue}
use Rattle.tasks_in_flight.proofs.Heard.{just_passed}
use Rattle.world_model.specs.declared.event.Step.TheVariants as steps
use Rattle.world_model.specs.declared.event.WorldEvent.TheVariants.{Phaser}
use Rattle.task_standing.specs.Known.{Known}
use Rattle.task_standing.specs.Noted.{noted}
use Rattle.tasks_in_flight.specs.inner.GoingOn.{IsOfPass}
use Rattle.task_worker.specs.inner.Driven.{IsReplied, Replies}
use Rattle.task_worker.proofs.Replied.{pass_goes, pass_replied, pass_is_of}
use Rattle.task_worker.proofs.worker.Shared.pass_on.Goals as goal

pub passed-requires-clause-due : goal.passed-requires-clause-due
passed-requires-clause-due g c =
    let back = rw c.in-Passed.is at c.pass-answer.ensures.item in
    let there : c.deref_mut-in-Passed.result.now ≡ c.front-me.new.self =
    c.deref_mut-in-Passed.ensures.value ∙ ap (λ i. i.task.value) back in
    let same : c.deref_mut-in-Passed.result.now.standing ≡ c.args.item.task.value.standing =
    ap (λ t. t.standing) there ∙ (c.front-me.ensures.standing ∙ ap (λ t. t.standing) c.deref_mut.ensures.value) in
    subst (λ (k : Known). IsDue (Some (Phaser c.args.phaser (steps.Pass k.number))) k) (sym same) c.requires

pub passed-requires-clause-more : goal.passed-requires-clause-more
passed-requires-clause-more g c =
    let back = rw c.in-Passed.is at c.pass-answer.ensures.item in
    let there : c.deref_mut-in-Passed.result.now ≡ c.front-me.new.self =
    c.deref_mut-in-Passed.ensures.value ∙ ap (λ i. i.task.value) back in
    let n = c.args.phaser in
    let same : c.front-me.result.story ≡ story_at c.deref_mut-in-Passed.result.now.fronts n =
    c.front-me.ensures.story
    ∙ (ap (λ (m : ℕ). story_at c.deref_mut.result.now.fronts m) c.in-Ok.ensures.same
    ∙ sym (ap (λ t. story_at t.fronts n) there ∙ ap (λ xs. story_at xs n) c.front-me.ensures.fronts)) in
    subst (λ (s : Story). GoesOn s c.pass-answer.new.me.story) same
    (pass_goes _ c.pass-answer.result c.front-me.result.story c.pass-answer.new.me.story c.number-task.result c.pass-answer.ensures.told)

pub passed-requires-clause-own : goal.passed-requires-clause-own
passed-requires-clause-own g c =
    let item = c.in-Passed.passed in
    let now = c.pass-answer.new.me.story in
    let back = rw c.in-Passed.is at c.pass-answer.ensures.item in
    let there : c.deref_mut-in-Passed.result.now ≡ c.front-me.new.self =
    c.deref_mut-in-Passed.ensures.value ∙ ap (λ i. i.task.value) back in
    let n = c.args.phaser in
    let same : c.front-me.result.story ≡ story_at c.deref_mut-in-Passed.result.now.fronts n =
    c.front-me.ensures.story
    ∙ (ap (λ (m : ℕ). story_at c.deref_mut.result.now.fronts m) c.in-Ok.ensures.same
    ∙ sym (ap (λ t. story_at t.fronts n) there ∙ ap (λ xs. story_at xs n) c.front-me.ensures.fronts)) in
    let own : c.number-task.result ≡ c.deref_mut-in-Passed.result.now.log.task =
    c.number-task.ensures.log
    ∙ (ap (λ t. t.log.task) c.deref.ensures
    ∙ (sym (ap (λ t. t.log.task) c.deref_mut.ensures.value) ∙ (sym c.front-me.ensures.task ∙ sym (ap (λ t. t.log.task) there)))) in
    subst (λ (t : ℕ). HasJustPassed t (story_at c.deref_mut-in-Passed.result.now.fronts n) now) own
    (subst (λ (s : Story). HasJustPassed c.number-task.result s now) same
    (just_passed _ item c.in-Passed.phase c.front-me.result.story now c.number-task.result
    (rw c.in-Passed.is at c.pass-answer.ensures.told)
    (rw c.in-Passed.is at c.pass-answer.ensures.closed)))

pub returns-in-Passed-clause-told : goal.returns-in-Passed-clause-told
returns-in-Passed-clause-told g c =
    let task = c.args.item.task.value in
    let n = c.args.phaser in
    let t = c.number-task.result in
    let back = rw c.in-Passed.is at c.pass-answer.ensures.item in
    let first = c.deref_mut.ensures.value in
    let own : t ≡ task.standing.number = c.number-task.ensures.standing ∙ ap (λ x. x.standing.number) c.deref.ensures in
    let before : c.front-me.result.story ≡ story_at task.fronts n =
    c.front-me.ensures.story ∙ (ap (λ x. story_at x.fronts c.in-Ok.number) first ∙ ap (λ (m : ℕ). story_at task.fronts m) c.in-Ok.ensures.same) in (
      c.passed.ensures.passed
          ∙ ap (λ (k : Known). noted (Phaser n (steps.Pass task.standing.number)) k)
          (ap (λ x. x.standing) c.deref_mut-in-Passed.ensures.value
          ∙ (ap (λ i. i.task.value.standing) back ∙ (c.front-me.ensures.standing ∙ ap (λ x. x.standing) first))),
      subst (λ (u : ℕ). IsReplied (story_at task.fronts n) (steps.Pass u)) own
          (subst (λ (s : Story). IsReplied s (steps.Pass t)) before
          (pass_replied _ c.in-Passed.passed c.in-Passed.phase c.front-me.result.story c.pass-answer.new.me.story t
          (rw c.in-Passed.is at c.pass-answer.ensures.told) c.is_legal.ensures.legal)),
    )

pub returns-in_default-clause-told : goal.returns-in_default-clause-told
returns-in_default-clause-told g c =
    let task = c.args.item.task.value in
    let n = c.args.phaser in
    let t = c.number-task.result in
    let first = c.deref_mut.ensures.value in
    let own : t ≡ task.standing.number = c.number-task.ensures.standing ∙ ap (λ x. x.standing.number) c.deref.ensures in
    let there : c.front-me.result.story ≡ story_at task.fronts n =
    c.front-me.ensures.story ∙ (ap (λ x. story_at x.fronts c.in-Ok.number) first ∙ ap (λ (m : ℕ). story_at task.fronts m) c.in-Ok.ensures.same) in
    subst (λ (u : ℕ). IsOfPass (λ i. i.task.value.standing) task.standing (Replies task.fronts) n u c.pass-answer.result) own
    (pass_is_of c.pass-answer.result (λ i. i.task.value.standing) task.standing _ c.front-me.result.story c.pass-answer.new.me.story task.fronts n t c.in_default.not-Passed
    (c.front-me.ensures.standing ∙ ap (λ x. x.standing) first) there c.pass-answer.ensures.item c.pass-answer.ensures.told c.is_legal.ensures.legal)
