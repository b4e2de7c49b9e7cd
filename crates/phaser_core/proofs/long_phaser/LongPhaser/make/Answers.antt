use Rattle.std.proofs.Common.{sym, ◌∙◌}
use Rattle.phase_model.specs.declared.call.Call.TheVariants.{Make as make}
use Rattle.phase_model.specs.Replies.{reply}
use Rattle.phaser_core.proofs.Numbers.{numbered_same}
use Rattle.phaser_core.proofs.long_phaser.LongPhaser.make.Goals as goal

pub invariant_of-self : goal.invariant_of-self
invariant_of-self c =
    let n = c.self.inside.next in
    let s = c.self.inside.engine.story in
    rw c.make.ensures.history
    (numbered_same n s (reply s (make n c.args.mode)) c.in_err-make.field-0.0 (sym c.make.ensures.reply ∙ c.in_err-make.was)
    c.self.invariant)
