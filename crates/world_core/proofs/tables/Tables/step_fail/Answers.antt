use Rattle.world_records.proofs.FailMade.{fail_is_step}
use Rattle.world_core.proofs.tables.Tables.step_fail.Goals as goal

pub returns : goal.returns
returns c = rw (c.fail.ensures.answer, c.fail.ensures.state) (fail_is_step c.args.self.now c.args.task c.args.number)
