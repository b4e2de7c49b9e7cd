use Rattle.std.proofs.Common.{Ok, Err}
use Rattle.phaser_judge.specs.declared.event.Named.TheVariants as named
use Rattle.phaser_judge.specs.declared.refused.Refused.TheVariants.{Rule}
use Rattle.phaser_judge.proofs.Registering.{reg_told, reg_left}
use Rattle.phaser_judge.proofs.judged.Judged.register.Goals as goal

pub returns-in-Ok-clause-said : goal.returns-in-Ok-clause-said
returns-in-Ok-clause-said c = λ _.
    reg_told _ c.args.self.now c.self.view_is (named.Reg c.args.parent c.args.child c.args.mode) c.in_ok-parent.parent
    c.args.mode (Ok tt) (c.in_ok-parent.ensures.named c.args.mode) c.in-Ok.ensures.said

pub returns-in-Ok-clause-story : goal.returns-in-Ok-clause-story
returns-in-Ok-clause-story c =
    reg_left _ c.args.self.now c.self.view_is (named.Reg c.args.parent c.args.child c.args.mode) c.in_ok-parent.parent
    c.args.mode c.register.new.phaser.story (c.in_ok-parent.ensures.named c.args.mode) c.register.ensures.story

pub returns-in-Err-clause-said : goal.returns-in-Err-clause-said
returns-in-Err-clause-said c = λ _.
    reg_told _ c.args.self.now c.self.view_is (named.Reg c.args.parent c.args.child c.args.mode) c.in_ok-parent.parent
    c.args.mode (Err (Rule c.in-Err.refusal)) (c.in_ok-parent.ensures.named c.args.mode) c.in-Err.ensures.refused
