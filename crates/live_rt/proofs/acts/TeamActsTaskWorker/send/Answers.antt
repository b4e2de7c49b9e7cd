use Rattle.std.proofs.Common.{w32, refl, sym, ap, subst, ◌∙◌}
use Rattle.std.specs.Prelude.{ℤ}
use Rattle.std.proofs.lemmas.Int.{to_z-of_z}
use Rattle.std.proofs.Math.Logic.{∥∥₁_map}
use Rattle.tasks_in_flight.specs.Heard.{send}
use Rattle.live_rt.specs.inner.Says.{Asks}
use Rattle.world_model.specs.declared.event.Step.TheVariants as steps
use Rattle.world_model.specs.declared.event.WorldEvent.TheVariants.{Phaser}
use Rattle.tasks_in_flight.specs.inner.GoingOn.{any_step, given_up}
use Rattle.tasks_in_flight.proofs.GoingOn.{acts_no_more}
use Rattle.live_rt.proofs.acts.TeamActsTaskWorker.send.Goals as goal

pub send_on-requires : goal.send_on-requires
send_on-requires g c =
    let task = c.args.task.now in record {
      says = subst (λ (v : ℤ). ∥ (g.J.Supposing.supposed → Asks g.B.Body.shows task.body (send c.args.phaser c.args.accumulator v) task.places task.standing) ∥₁)
          (sym (to_z-of_z w32 c.args.value c.ranges.value)) (∥∥₁_map c.requires (λ f p. (f p).asks));
    }

pub returns-in-Ok-clause-acts : goal.returns-in-Ok-clause-acts
returns-in-Ok-clause-acts g c =
    (Phaser c.args.phaser (steps.Send c.args.task.now.standing.number c.args.accumulator c.args.value), refl, tt, c.in-Ok.ensures.acted)

pub returns-in-Err-clause-acts : goal.returns-in-Err-clause-acts
returns-in-Err-clause-acts g c =
    acts_no_more any_step c.args.task.now.standing c.give_up.new.self.standing (c.give_up.ensures.given_up ∙ ap given_up c.in-Err.ensures.refused)
