use Rattle.world_records.proofs.AbleRead.{able_is}
use Rattle.world_core.proofs.tables.Tables.able.Goals as goal

pub returns : goal.returns
returns c w st = rw c.kept_able.ensures (able_is c.args.self.now c.args.task w st)
