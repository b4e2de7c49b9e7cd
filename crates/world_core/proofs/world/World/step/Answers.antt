use Rattle.world_records.proofs.Worlds.{still_a_world}
use Rattle.world_core.proofs.world.World.step.Goals as goal

pub invariant_of-self : goal.invariant_of-self
invariant_of-self c = still_a_world c.args.event.now c.self.inside.tables c.step.new.self c.step.result c.step.ensures c.self.invariant
