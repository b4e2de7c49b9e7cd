use Rattle.std.proofs.Common.{refl}
use Rattle.phase_model.specs.declared.call.Call.TheVariants.{Drop as drop_task}
use Rattle.phaser_core.proofs.Numbers.{numbered_after}
use Rattle.phaser_core.proofs.long_phaser.LongPhaser.leave.Goals as goal

pub invariant_of-self : goal.invariant_of-self
invariant_of-self c =
    rw c.drop_task.ensures.history
    (numbered_after c.self.inside.next c.self.inside.engine.story (drop_task c.args.task) (λ t. refl) c.self.invariant)
