use Rattle.world_records.proofs.EndMade.{end_is_step}
use Rattle.world_core.proofs.tables.Tables.step_end.Goals as goal

pub returns : goal.returns
returns c = rw (c.end_due.ensures.answer, c.end_due.ensures.state) (end_is_step c.args.self.now c.args.finish c.args.task)
