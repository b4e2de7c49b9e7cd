use Rattle.world_records.proofs.SpawnBegun.{begin_is_step}
use Rattle.world_core.proofs.tables.Tables.step_begin.Goals as goal

pub returns : goal.returns
returns c = rw (c.begin.ensures.answer, c.begin.ensures.state) (begin_is_step c.args.self.now c.args.task c.args.begun c.begin.ensures.tasks)
