use Rattle.std.proofs.Common.{ℕ, ◌≡◌, Some, sym, ap, subst, ◌∙◌}
use Rattle.world_model.specs.declared.event.WorldEvent.TheVariants.{Phaser}
use Rattle.world_model.specs.declared.event.Step.TheVariants as steps
use Rattle.table_receipts.specs.Seen.{story_at}
use Rattle.task_standing.specs.Known.{Known}
use Rattle.task_standing.specs.Noted.{noted}
use Rattle.tasks_in_flight.specs.inner.Ready.{IsDue}
use Rattle.task_worker.specs.inner.Driven.{IsReplied}
use Rattle.task_worker.proofs.worker.Shared.leave.Goals as goal

pub left-requires : goal.left-requires
left-requires g c =
    let n = c.args.phaser in
    let same : c.deref_mut-2.result.now.standing ≡ c.args.item.task.value.standing =
    ap (λ t. t.standing) c.deref_mut-2.ensures.value ∙ (c.in_ok-drop_on.ensures.standing ∙ ap (λ t. t.standing) c.deref_mut.ensures.value) in
    record { due = subst (λ (k : Known). IsDue (Some (Phaser n (steps.Drop k.number))) k) (sym same) c.requires }

pub returns-clause-made : goal.returns-clause-made
returns-clause-made g c =
    let task = c.args.item.task.value in
    let n = c.args.phaser in
    let first = c.deref_mut.ensures.value in
    let leaver : c.of-leaver.result ≡ task.standing.number =
    c.of-leaver.ensures ∙ (c.number.ensures.standing ∙ ap (λ t. t.standing.number) c.deref.ensures) in (
      subst (λ (u : ℕ). IsReplied (story_at task.fronts n) (steps.Drop u)) leaver
          (subst (λ (m : ℕ). IsReplied (story_at task.fronts m) (steps.Drop c.of-leaver.result)) c.of.ensures
          (subst (λ (t : _). IsReplied (story_at t.fronts c.of.result) (steps.Drop c.of-leaver.result)) first c.in_ok-drop_on.ensures.told)),
      c.left.ensures
          ∙ ap (λ (k : Known). noted (Phaser n (steps.Drop task.standing.number)) k)
          (ap (λ t. t.standing) c.deref_mut-2.ensures.value ∙ (c.in_ok-drop_on.ensures.standing ∙ ap (λ t. t.standing) first)),
    )
