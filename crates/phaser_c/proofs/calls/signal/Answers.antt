-- What a signal answers, by the clause of the phaser's own.
use Rattle.std.proofs.Common.{Option, sym, ap, ◌∙◌}
use Rattle.phase_model.specs.declared.call.Call.TheVariants.{Signal as signal}
use Rattle.phase_model.specs.Replies.{reply, returned}
use Rattle.phaser_engine.specs.Phaser.{Phaser}
use Rattle.phase_model.specs.Outcomes.{signal_reply}
use Rattle.phase_model.proofs.Applied.{signal_returned}
use Rattle.phaser_c.specs.Answers.{number_of_answer, answer_for, number_for}
use Rattle.phaser_c.specs.Calls.{story, answered}
use Rattle.phaser_c.proofs.calls.signal.Goals as goal

pub returns-clause-answer : goal.returns-clause-answer
returns-clause-answer c =
    let call = signal c.args.task c.args.proposed in
    c.number-2.ensures ∙ ap number_of_answer (c.of_signal.ensures ∙ ap answer_for
    (ap signal_reply c.signal-outcome.ensures.reply ∙ signal_returned c.deref_mut.result.now.story.past _ _ _ _ _))
    ∙ ap (λ (p : Phaser). number_of_answer (answer_for (returned p.story.past (reply p.story call))))
    c.deref_mut.ensures.value
    ∙ ap (λ (held : Option Phaser). number_for (answered (story held) call)) (sym c.in-Some.ensures.taken)
