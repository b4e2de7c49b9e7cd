use Rattle.std.proofs.Common.{refl, ap, ◌∙◌}
use Rattle.std.proofs.Math.Logic.{∥∥₁_map}
use Rattle.world_model.specs.declared.event.Step.TheVariants.{Look}
use Rattle.world_model.specs.declared.event.WorldEvent.TheVariants.{Phaser}
use Rattle.tasks_in_flight.specs.inner.GoingOn.{any_step, given_up}
use Rattle.tasks_in_flight.proofs.GoingOn.{acts_no_more}
use Rattle.live_rt.proofs.acts.TeamActsTaskWorker.look.Goals as goal

pub look_on-requires : goal.look_on-requires
look_on-requires g c = record { says = ∥∥₁_map c.requires (λ f p. (f p).asks) }

pub returns-in-Ok-clause-acts : goal.returns-in-Ok-clause-acts
returns-in-Ok-clause-acts g c = (Phaser c.args.phaser (Look c.args.task.now.standing.number c.args.accumulator), refl, tt, c.in-Ok.ensures.acted)

pub returns-in-Err-clause-acts : goal.returns-in-Err-clause-acts
returns-in-Err-clause-acts g c =
    acts_no_more any_step c.args.task.now.standing c.give_up.new.self.standing (c.give_up.ensures.given_up ∙ ap given_up c.in-Err.ensures.refused)
