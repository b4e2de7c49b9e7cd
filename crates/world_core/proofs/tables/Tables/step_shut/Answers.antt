use Rattle.world_records.proofs.ShutMade.{shut_is_step}
use Rattle.world_core.proofs.tables.Tables.step_shut.Goals as goal

pub returns : goal.returns
returns c = rw (c.shut_due.ensures.answer, c.shut_due.ensures.state) (shut_is_step c.args.self.now c.args.finish)
