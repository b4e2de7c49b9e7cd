use Rattle.phaser_core.proofs.Numbers.{numbered_send}
use Rattle.phaser_core.proofs.long_phaser.LongPhaser.send.Goals as goal

pub invariant_of-self : goal.invariant_of-self
invariant_of-self c =
    rw c.send.ensures.history
    (numbered_send c.self.inside.next c.self.inside.engine.story c.args.task c.args.accumulator _ c.self.invariant)
