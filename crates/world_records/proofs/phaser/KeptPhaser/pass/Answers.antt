-- The stored phaser is asked by the task's number.
use Rattle.std.proofs.Common.{◌≡◌}
use Rattle.phase_model.specs.declared.call.Call.TheVariants.{Pass}
use Rattle.phase_model.specs.Replies.{reply, after}
use Rattle.phase_model.specs.Answers.{pass_result}
use Rattle.world_records.proofs.phaser.KeptPhaser.pass.Goals as goal

pub returns-clause-reply : goal.returns-clause-reply
returns-clause-reply c =
    let story = c.self.inside.state.story in
    let answered : c.pass.result ≡ pass_result story.past (reply story (Pass c.get.result)) = c.pass.ensures.reply in
    rw (c.get.ensures, c.self.view_is) at answered

pub returns-clause-history : goal.returns-clause-history
returns-clause-history c =
    let story = c.self.inside.state.story in
    let gone : c.pass.new.self.story ≡ after story (reply story (Pass c.get.result)) = c.pass.ensures.history in
    rw (c.get.ensures, c.self.view_is) at gone
