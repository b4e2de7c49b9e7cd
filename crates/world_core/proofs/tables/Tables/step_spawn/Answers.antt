use Rattle.world_records.proofs.SpawnMade.{spawn_is_step}
use Rattle.world_core.proofs.tables.Tables.step_spawn.Goals as goal

pub returns : goal.returns
returns c = rw (c.spawn_child.ensures.answer, c.spawn_child.ensures.state) (spawn_is_step c.args.self.now c.args.finish c.args.child)
