use Rattle.std.proofs.Common.{refl}
use Rattle.phase_model.specs.declared.call.Call.TheVariants.{Signal as signal}
use Rattle.phaser_core.proofs.Numbers.{numbered_after}
use Rattle.phaser_core.proofs.long_phaser.LongPhaser.signal.Goals as goal

pub invariant_of-self : goal.invariant_of-self
invariant_of-self c =
    rw c.signal.ensures.history
    (numbered_after c.self.inside.next c.self.inside.engine.story (signal c.args.task c.args.number) (λ t. refl) c.self.invariant)
