use Rattle.std.proofs.Common.{refl}
use Rattle.phase_model.specs.declared.call.Call.TheVariants.{SingleDone as single_done}
use Rattle.phaser_core.proofs.Numbers.{numbered_after}
use Rattle.phaser_core.proofs.long_phaser.LongPhaser.single_done.Goals as goal

pub invariant_of-self : goal.invariant_of-self
invariant_of-self c =
    rw c.single_done.ensures.history
    (numbered_after c.self.inside.next c.self.inside.engine.story (single_done c.args.task) (λ t. refl) c.self.invariant)
