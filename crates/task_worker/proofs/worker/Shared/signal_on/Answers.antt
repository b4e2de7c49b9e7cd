use Rattle.std.proofs.Common.{ℕ, ◌≡◌, Some, sym, ap, subst, ◌∙◌}
use Rattle.phase_model.specs.declared.call.Call.TheVariants as calls
use Rattle.phase_model.specs.declared.history.Event.TheVariants.{Sig}
use Rattle.phase_model.specs.Rules.{Story}
use Rattle.told_history.specs.Stories.{GoesOn}
use Rattle.table_receipts.specs.Seen.{story_at}
use Rattle.tasks_in_flight.specs.inner.Ready.{HasJustDone, IsDue}
use Rattle.tasks_in_flight.proofs.Heard.{just_signalled}
use Rattle.world_model.specs.declared.event.Step.TheVariants as steps
use Rattle.world_model.specs.declared.event.WorldEvent.TheVariants.{Phaser}
use Rattle.task_standing.specs.Known.{Known}
use Rattle.task_standing.specs.Noted.{noted}
use Rattle.task_worker.specs.inner.Driven.{IsReplied}
use Rattle.task_worker.proofs.Replied.{signal_goes, signal_replied}
use Rattle.task_worker.proofs.worker.Shared.signal_on.Goals as goal

pub signalled-requires-clause-due : goal.signalled-requires-clause-due
signalled-requires-clause-due g c =
    let back = rw c.in-Signalled.is at c.signal-answer.ensures.item in
    let there : c.deref_mut-in-Signalled.result.now ≡ c.front-me.new.self =
    c.deref_mut-in-Signalled.ensures.value ∙ ap (λ i. i.task.value) back in
    let same : c.deref_mut-in-Signalled.result.now.standing ≡ c.args.item.task.value.standing =
    ap (λ t. t.standing) there ∙ (c.front-me.ensures.standing ∙ ap (λ t. t.standing) c.deref_mut.ensures.value) in
    subst (λ (k : Known). IsDue (Some (Phaser c.args.phaser (steps.Sig k.number c.args.proposed))) k) (sym same) c.requires

pub signalled-requires-clause-more : goal.signalled-requires-clause-more
signalled-requires-clause-more g c =
    let back = rw c.in-Signalled.is at c.signal-answer.ensures.item in
    let there : c.deref_mut-in-Signalled.result.now ≡ c.front-me.new.self =
    c.deref_mut-in-Signalled.ensures.value ∙ ap (λ i. i.task.value) back in
    let n = c.args.phaser in
    let same : c.front-me.result.story ≡ story_at c.deref_mut-in-Signalled.result.now.fronts n =
    c.front-me.ensures.story
    ∙ (ap (λ (m : ℕ). story_at c.deref_mut.result.now.fronts m) c.in-Ok.ensures.same
    ∙ sym (ap (λ t. story_at t.fronts n) there ∙ ap (λ xs. story_at xs n) c.front-me.ensures.fronts)) in
    subst (λ (s : Story). GoesOn s c.signal-answer.new.me.story) same
    (signal_goes _ c.signal-answer.result c.front-me.result.story c.signal-answer.new.me.story c.number-task.result c.args.proposed c.signal-answer.ensures.told)

pub signalled-requires-clause-own : goal.signalled-requires-clause-own
signalled-requires-clause-own g c =
    let item = c.in-Signalled.signalled in
    let now = c.signal-answer.new.me.story in
    let back = rw c.in-Signalled.is at c.signal-answer.ensures.item in
    let there : c.deref_mut-in-Signalled.result.now ≡ c.front-me.new.self =
    c.deref_mut-in-Signalled.ensures.value ∙ ap (λ i. i.task.value) back in
    let n = c.args.phaser in
    let same : c.front-me.result.story ≡ story_at c.deref_mut-in-Signalled.result.now.fronts n =
    c.front-me.ensures.story
    ∙ (ap (λ (m : ℕ). story_at c.deref_mut.result.now.fronts m) c.in-Ok.ensures.same
    ∙ sym (ap (λ t. story_at t.fronts n) there ∙ ap (λ xs. story_at xs n) c.front-me.ensures.fronts)) in
    let own : c.number-task.result ≡ c.deref_mut-in-Signalled.result.now.log.task =
    c.number-task.ensures.log
    ∙ (ap (λ t. t.log.task) c.deref.ensures
    ∙ (sym (ap (λ t. t.log.task) c.deref_mut.ensures.value) ∙ (sym c.front-me.ensures.task ∙ sym (ap (λ t. t.log.task) there)))) in
    subst (λ (t : ℕ). HasJustDone (Sig t c.args.proposed) (story_at c.deref_mut-in-Signalled.result.now.fronts n) now) own
    (subst (λ (s : Story). HasJustDone (Sig c.number-task.result c.args.proposed) s now) same
    (just_signalled _ item c.front-me.result.story now c.number-task.result c.args.proposed
    (rw c.in-Signalled.is at c.signal-answer.ensures.told)))

pub returns-in-Signalled-clause-told : goal.returns-in-Signalled-clause-told
returns-in-Signalled-clause-told g c =
    let task = c.args.item.task.value in
    let n = c.args.phaser in
    let t = c.number-task.result in
    let back = rw c.in-Signalled.is at c.signal-answer.ensures.item in
    let first = c.deref_mut.ensures.value in
    let own : t ≡ task.standing.number = c.number-task.ensures.standing ∙ ap (λ x. x.standing.number) c.deref.ensures in
    let before : c.front-me.result.story ≡ story_at task.fronts n =
    c.front-me.ensures.story ∙ (ap (λ x. story_at x.fronts c.in-Ok.number) first ∙ ap (λ (m : ℕ). story_at task.fronts m) c.in-Ok.ensures.same) in (
      c.signalled.ensures.signalled
          ∙ ap (λ (k : Known). noted (Phaser n (steps.Sig task.standing.number c.args.proposed)) k)
          (ap (λ x. x.standing) c.deref_mut-in-Signalled.ensures.value
          ∙ (ap (λ i. i.task.value.standing) back ∙ (c.front-me.ensures.standing ∙ ap (λ x. x.standing) first))),
      subst (λ (u : ℕ). IsReplied (story_at task.fronts n) (steps.Sig u c.args.proposed)) own
          (subst (λ (s : Story). IsReplied s (steps.Sig t c.args.proposed)) before
          (signal_replied _ c.in-Signalled.signalled c.front-me.result.story c.signal-answer.new.me.story t c.args.proposed
          (rw c.in-Signalled.is at c.signal-answer.ensures.told) c.is_legal.ensures.legal)),
    )
