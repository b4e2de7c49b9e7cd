use Rattle.std.proofs.Common.{◌∙◌}
use Rattle.schedule_run.proofs.Seats.{list_child}
use Rattle.schedule_run.proofs.bodies.Bodies.seat_child.Goals as goal

pub returns-clause-stand : goal.returns-clause-stand
returns-clause-stand c = λ p w t pairs asked body.
    list_child p w t c.args.child pairs c.args.self.now.seats.items c.begun.result asked c.requires
    (c.begun.ensures.body ∙ body) c.begun.ensures.heard
