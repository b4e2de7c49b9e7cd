use Rattle.world_records.proofs.DropMade.{drop_is_step}
use Rattle.world_core.proofs.tables.Tables.step_drop.Goals as goal

pub returns : goal.returns
returns c = rw (c.drop_due.ensures.answer, c.drop_due.ensures.state) (drop_is_step c.args.self.now c.args.phaser c.args.task)
