use Rattle.std.proofs.Common.{ap, sym, ◌∙◌}
use Rattle.phaser_core.specs.declared.parked.ParkedCall.{ParkedCall}
use Rattle.long_locks.specs.Courses.{course, story_after}
use Rattle.long_locks.proofs.own.own_step.Goals as goal

pub returns-in-Pass-clause-course : goal.returns-in-Pass-clause-course
returns-in-Pass-clause-course c =
    c.own_pass.ensures.course
    ∙ sym (ap (λ (k : ParkedCall). course c.args.state.now.story c.args.task k c.args.then) c.in-Pass.is)

pub returns-in-Pass-clause-history : goal.returns-in-Pass-clause-history
returns-in-Pass-clause-history c =
    c.own_pass.ensures.history
    ∙ sym (ap (λ (k : ParkedCall). story_after c.args.state.now.story c.args.task k) c.in-Pass.is)

pub returns-in-Signal-clause-course : goal.returns-in-Signal-clause-course
returns-in-Signal-clause-course c =
    c.own_signal.ensures.course
    ∙ sym (ap (λ (k : ParkedCall). course c.args.state.now.story c.args.task k c.args.then) c.in-Signal.is)

pub returns-in-Signal-clause-history : goal.returns-in-Signal-clause-history
returns-in-Signal-clause-history c =
    c.own_signal.ensures.history
    ∙ sym (ap (λ (k : ParkedCall). story_after c.args.state.now.story c.args.task k) c.in-Signal.is)
