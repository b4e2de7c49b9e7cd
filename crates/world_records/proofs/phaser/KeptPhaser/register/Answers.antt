-- The stored phaser is asked by the task's number.
use Rattle.std.proofs.Common.{ap, ◌∙◌}
use Rattle.phase_model.specs.Rules.{Story}
use Rattle.phase_model.specs.declared.call.Call.TheVariants.{Register}
use Rattle.phase_model.specs.Replies.{reply, after, done_result}
use Rattle.world_records.proofs.phaser.KeptPhaser.register.Goals as goal

pub returns-clause-reply : goal.returns-clause-reply
returns-clause-reply c =
    c.register.ensures.reply
    ∙ ap (λ t. done_result (reply c.self.inside.state.story (Register t c.get-2.result c.args.mode))) c.get.ensures
    ∙ ap (λ t. done_result (reply c.self.inside.state.story (Register c.args.parent t c.args.mode))) c.get-2.ensures
    ∙ ap (λ (s : Story). done_result (reply s (Register c.args.parent c.args.child c.args.mode))) c.self.view_is

pub returns-clause-history : goal.returns-clause-history
returns-clause-history c =
    c.register.ensures.history
    ∙ ap (λ t. after c.self.inside.state.story (reply c.self.inside.state.story (Register t c.get-2.result c.args.mode))) c.get.ensures
    ∙ ap (λ t. after c.self.inside.state.story (reply c.self.inside.state.story (Register c.args.parent t c.args.mode))) c.get-2.ensures
    ∙ ap (λ (s : Story). after s (reply s (Register c.args.parent c.args.child c.args.mode))) c.self.view_is
