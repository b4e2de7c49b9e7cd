-- The stored phaser is asked by the task's number.
use Rattle.std.proofs.Common.{ap, ◌∙◌}
use Rattle.phase_model.specs.Rules.{Story}
use Rattle.phase_model.specs.declared.call.Call.TheVariants.{Signal}
use Rattle.phase_model.specs.Replies.{reply, after}
use Rattle.phase_model.specs.Answers.{signal_result}
use Rattle.world_records.proofs.phaser.KeptPhaser.signal.Goals as goal

pub returns-clause-reply : goal.returns-clause-reply
returns-clause-reply c =
    c.signal.ensures.reply
    ∙ ap (λ t. signal_result (reply c.self.inside.state.story (Signal t c.args.number))) c.get.ensures
    ∙ ap (λ (s : Story). signal_result (reply s (Signal c.args.task c.args.number))) c.self.view_is

pub returns-clause-history : goal.returns-clause-history
returns-clause-history c =
    c.signal.ensures.history
    ∙ ap (λ t. after c.self.inside.state.story (reply c.self.inside.state.story (Signal t c.args.number))) c.get.ensures
    ∙ ap (λ (s : Story). after s (reply s (Signal c.args.task c.args.number))) c.self.view_is
