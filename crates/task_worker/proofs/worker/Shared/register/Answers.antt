use Rattle.std.proofs.Common.{inl, ap, subst, ◌∙◌}
use Rattle.world_model.specs.declared.event.WorldEvent.TheVariants.{Phaser}
use Rattle.world_model.specs.declared.event.Step.TheVariants as steps
use Rattle.table_receipts.specs.Seen.{story_at}
use Rattle.task_standing.specs.Known.{Known}
use Rattle.task_standing.specs.Noted.{noted}
use Rattle.task_worker.specs.inner.Driven.{IsReplied}
use Rattle.task_worker.proofs.worker.Shared.register.Goals as goal

pub returns-in_ok-note_registration-in-Ok-clause-made : goal.returns-in_ok-note_registration-in-Ok-clause-made
returns-in_ok-note_registration-in-Ok-clause-made g c =
    let p = c.args.pair in
    let first = c.deref_mut.ensures.value in
    inl (
      subst (λ (t : _). IsReplied (story_at t.fronts p.phaser) (steps.Reg t.standing.number c.args.child p.mode)) first c.in-Ok.ensures.told,
      c.in_ok-note_registration-in-Ok.ensures.task
          ∙ ap (λ (k : Known). noted (Phaser p.phaser (steps.Reg k.number c.args.child p.mode)) k)
          (c.in-Ok.ensures.standing ∙ ap (λ t. t.standing) first),
    )
