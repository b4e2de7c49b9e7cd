use Rattle.std.proofs.Common.{refl, ◌∷◌, subst}
use Rattle.world_model.specs.declared.event.WorldEvent.{WorldEvent}
use Rattle.trace_walk.specs.Given.{numbers_view}
use Rattle.schedule_run.specs.inner.Bodies.{BodiesStand}
use Rattle.schedule_run.proofs.Settling.{makes_phaser, plain_act}
use Rattle.schedule_run.proofs.runner.settle.Goals as goal

pub returns-in-New-clause-stand : goal.returns-in-New-clause-stand
returns-in-New-clause-stand c p w asked places given accepted =
    let made = rw (c.of.ensures, c.of-in-New.ensures) at c.report_made.ensures.stand p w c.in-New.field-0
    (record { ops = c.in-New.field-1; bound = c.in-New.field-2 }) in
    subst (λ (e : WorldEvent). BodiesStand p (e ∷ w) c.report_made.new.self.seats.items) (makes_phaser p w c.args.task (numbers_view c.args.new) c.args.act c.in-New.field-0 c.in-New.field-1 c.in-New.field-2 given c.in-New.is)
    (made asked)

pub returns-in_default : goal.returns-in_default
returns-in_default c = record {
  stand = λ p w asked places given accepted. plain_act p w c.args.task (numbers_view c.args.new) c.args.act c.args.bodies.now.seats.items asked given c.in_default.not-Async c.in_default.not-AsyncAll c.in_default.not-New;
  places = refl;
}
