use Rattle.std.proofs.Common.{inl}
use Rattle.world_model.specs.declared.event.Step.TheVariants as steps
use Rattle.tasks_in_flight.proofs.GoingOn.{gives_up_turn, claims}
use Rattle.task_worker.specs.inner.Driven.{Replies}
use Rattle.task_worker.proofs.worker.Shared.pass.Goals as goal

pub returns-in-Passed-clause-made : goal.returns-in-Passed-clause-made
returns-in-Passed-clause-made g c =
    let told = rw c.in-Passed.is at c.in_ok-passed.ensures.told in
    inl (inl (told.1, told.0))

pub returns-in-Claimed-clause-made : goal.returns-in-Claimed-clause-made
returns-in-Claimed-clause-made g c =
    let task = c.args.item.task.value in
    let told = rw c.in-Claimed.is at c.in_ok-passed.ensures.told in
    claims c.run_single.result (λ i. i.task.value.standing) (Replies task.fronts) c.args.phaser
    c.in-Claimed.item.task.value.standing task.standing told.0 told.1 c.run_single.ensures.standing

pub returns-after-matches-clause-made : goal.returns-after-matches-clause-made
returns-after-matches-clause-made g c =
    let task = c.args.item.task.value in
    gives_up_turn c.give_up.result (λ i. i.task.value.standing) (Replies task.fronts) c.args.phaser
    c.in-Refused.item.task.value.standing task.standing (rw c.in-Refused.is at c.in_ok-passed.ensures.told) c.give_up.ensures
