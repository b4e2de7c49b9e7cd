use Rattle.world_records.proofs.NextRead.{next_is}
use Rattle.world_core.proofs.tables.Tables.next_event.Goals as goal

pub returns : goal.returns
returns c w st = rw c.kept_next.ensures (next_is c.args.self.now c.args.task w st)
