-- Each call's reply, by the clause of the method that makes it.
use Rattle.std.proofs.Common.{refl, ap, ◌∙◌}
use Rattle.phase_model.specs.Outcomes.{done_reply, signal_reply, pass_reply, look_reply}
use Rattle.phase_model.proofs.Applied.{done_returned, signal_returned, pass_returned, look_returned}
use Rattle.phaser_core.proofs.state.PhaserState.apply.Goals as goal

pub returns-in-Register-clause-reply : goal.returns-in-Register-clause-reply
returns-in-Register-clause-reply c =
    rw c.in-Register.is (c.done_reply-in-Register.ensures ∙ ap done_reply c.register.ensures.reply
    ∙ done_returned c.args.self.now.story.past _ _ _ refl)

pub returns-in-Signal-clause-reply : goal.returns-in-Signal-clause-reply
returns-in-Signal-clause-reply c =
    rw c.in-Signal.is
    (c.signal_reply.ensures ∙ ap signal_reply c.signal.ensures.reply
    ∙ signal_returned c.args.self.now.story.past _ _ _ _ _)

pub returns-in-Pass-clause-reply : goal.returns-in-Pass-clause-reply
returns-in-Pass-clause-reply c =
    rw c.in-Pass.is
    (c.pass_reply.ensures ∙ ap pass_reply c.pass.ensures.reply
    ∙ pass_returned c.args.self.now.story.past _ _ _ _ _)

pub returns-in-Look-clause-reply : goal.returns-in-Look-clause-reply
returns-in-Look-clause-reply c =
    rw c.in-Look.is
    (c.look_reply.ensures ∙ ap look_reply c.look.ensures.reply
    ∙ look_returned c.args.self.now.story.past _ _ _ _ _)
