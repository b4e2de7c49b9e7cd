use Rattle.world_records.proofs.ClockRead.{clock_is}
use Rattle.world_core.proofs.tables.Tables.clock.Goals as goal

pub returns : goal.returns
returns c w st = rw c.kept_clock.ensures (clock_is c.args.self.now c.args.task w st)
