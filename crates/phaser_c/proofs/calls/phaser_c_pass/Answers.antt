-- What a pass answers and gives, by the clause of the phaser's own.
use Rattle.std.proofs.Common.{Option, Some, sym, ap, ◌∙◌}
use Rattle.phase_model.specs.declared.call.Call.TheVariants.{Pass as pass}
use Rattle.phase_model.specs.declared.call.Reply.{Reply}
use Rattle.phase_model.specs.Replies.{reply, returned}
use Rattle.phaser_engine.specs.Phaser.{Phaser}
use Rattle.phase_model.specs.Outcomes.{pass_reply}
use Rattle.phase_model.proofs.Applied.{pass_returned}
use Rattle.phaser_c.specs.Answers.{number_of_answer, answer_for, number_for, number_given}
use Rattle.phaser_c.specs.Calls.{story, answered}
use Rattle.phaser_c.proofs.calls.phaser_c_pass.Goals as goal

pub returns-clause-answer : goal.returns-clause-answer
returns-clause-answer c =
    let call = pass c.args.task in
    c.number-2.ensures ∙ ap number_of_answer (c.of_pass.ensures ∙ ap answer_for
    (ap pass_reply c.pass-outcome.ensures.reply ∙ pass_returned c.deref_mut.result.now.story.past _ _ _ _ _))
    ∙ ap (λ (p : Phaser). number_of_answer (answer_for (returned p.story.past (reply p.story call))))
    c.deref_mut.ensures.value
    ∙ ap (λ (held : Option Phaser). number_for (answered (story held) call)) (sym c.in-Some.ensures.taken)

pub returns-clause-number : goal.returns-clause-number
returns-clause-number c =
    let call = pass c.args.task in let old = c.args.number.now in
    c.give_number.ensures ∙ ap (λ (r : Reply). number_given old (Some r))
    (ap pass_reply c.pass-outcome.ensures.reply ∙ pass_returned c.deref_mut.result.now.story.past _ _ _ _ _)
    ∙ ap (λ (p : Phaser). number_given old (Some (returned p.story.past (reply p.story call))))
    c.deref_mut.ensures.value
    ∙ ap (λ (held : Option Phaser). number_given old (answered (story held) call)) (sym c.in-Some.ensures.taken)
