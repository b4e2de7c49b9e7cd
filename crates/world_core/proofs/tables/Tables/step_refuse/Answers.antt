use Rattle.world_records.proofs.RefuseMade.{refuse_is_step}
use Rattle.world_core.proofs.tables.Tables.step_refuse.Goals as goal

pub returns : goal.returns
returns c = rw (c.refuse.ensures.answer, c.refuse.ensures.state) (refuse_is_step c.args.self.now c.args.task c.args.tried c.args.number)
