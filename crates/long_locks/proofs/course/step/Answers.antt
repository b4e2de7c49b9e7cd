use Rattle.std.proofs.Common.{ℕ, Result, ap, sym, ◌∙◌}
use Rattle.phase_modes.specs.declared.refusal.Refusal.{Refusal}
use Rattle.phase_model.specs.declared.answer.Signalling.{Signalling}
use Rattle.phase_model.specs.declared.answer.Passing.{Passing}
use Rattle.phaser_core.specs.declared.parked.ParkedCall.{ParkedCall}
use Rattle.phaser_core.specs.Parking.{answered_is, signal_answered_is}
use Rattle.long_locks.specs.Courses.{course, story_after, pass_course, signal_course}
use Rattle.long_locks.proofs.course.step.Goals as goal

pub returns-in-Pass-clause-course : goal.returns-in-Pass-clause-course
returns-in-Pass-clause-course c =
    let s = c.args.state.now.story in
    let t = c.args.task in
    c.of_pass.ensures
    ∙ (ap (λ (r : Result (Passing ℕ) Refusal). pass_course r) (c.pass.ensures.reply ∙ answered_is s t)
    ∙ sym (ap (λ (k : ParkedCall). course s t k c.args.then) c.in-Pass.is))

pub returns-in-Pass-clause-history : goal.returns-in-Pass-clause-history
unfolding story_after
returns-in-Pass-clause-history c =
    c.pass.ensures.history
    ∙ sym (ap (λ (k : ParkedCall). story_after c.args.state.now.story c.args.task k) c.in-Pass.is)

pub returns-in-Signal-clause-course : goal.returns-in-Signal-clause-course
returns-in-Signal-clause-course c =
    let s = c.args.state.now.story in
    let t = c.args.task in
    c.of_signal.ensures
    ∙ (ap (λ (r : Result Signalling Refusal). signal_course c.args.then r)
    (c.signal.ensures.reply ∙ signal_answered_is s t c.in-Signal.number)
    ∙ sym (ap (λ (k : ParkedCall). course s t k c.args.then) c.in-Signal.is))

pub returns-in-Signal-clause-history : goal.returns-in-Signal-clause-history
unfolding story_after
returns-in-Signal-clause-history c =
    c.signal.ensures.history
    ∙ sym (ap (λ (k : ParkedCall). story_after c.args.state.now.story c.args.task k) c.in-Signal.is)
