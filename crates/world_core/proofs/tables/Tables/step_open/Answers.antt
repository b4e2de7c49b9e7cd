use Rattle.world_records.proofs.OpenMade.{open_is_step}
use Rattle.world_core.proofs.tables.Tables.step_open.Goals as goal

pub returns : goal.returns
returns c = rw (c.open_finish.ensures.answer, c.open_finish.ensures.state) (open_is_step c.args.self.now c.args.finish c.args.task)
