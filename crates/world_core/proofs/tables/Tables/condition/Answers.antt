use Rattle.world_records.proofs.NextRead.{condition_is}
use Rattle.world_core.proofs.tables.Tables.condition.Goals as goal

pub returns : goal.returns
returns c w st = rw c.kept_condition.ensures (condition_is c.args.self.now c.args.task w st)
