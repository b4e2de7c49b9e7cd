use Rattle.world_records.proofs.RegisterMade.{register_is_step}
use Rattle.world_core.proofs.tables.Tables.step_register.Goals as goal

pub returns : goal.returns
returns c = rw (c.register_child.ensures.answer, c.register_child.ensures.state) (register_is_step c.args.self.now c.args.phaser c.args.parent c.args.child c.args.mode)
