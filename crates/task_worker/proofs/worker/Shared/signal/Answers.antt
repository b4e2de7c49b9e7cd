use Rattle.std.proofs.Common.{inl}
use Rattle.world_model.specs.declared.event.Step.TheVariants as steps
use Rattle.world_model.specs.declared.event.WorldEvent.TheVariants.{Phaser}
use Rattle.tasks_in_flight.proofs.GoingOn.{gives_up}
use Rattle.task_worker.specs.inner.Driven.{Replies}
use Rattle.task_worker.proofs.worker.Shared.signal.Goals as goal

pub returns-in-Signalled-clause-made : goal.returns-in-Signalled-clause-made
returns-in-Signalled-clause-made g c =
    let told = rw c.in-Signalled.is at c.in_ok-signalled.ensures.told in
    inl (told.1, told.0)

pub returns-after-matches-clause-made : goal.returns-after-matches-clause-made
returns-after-matches-clause-made g c =
    let task = c.args.item.task.value in
    gives_up c.give_up.result (λ i. i.task.value.standing) (Replies task.fronts)
    (Phaser c.args.phaser (steps.Sig task.standing.number c.args.number)) c.in-Refused.item.task.value.standing task.standing
    (rw c.in-Refused.is at c.in_ok-signalled.ensures.told) c.give_up.ensures
