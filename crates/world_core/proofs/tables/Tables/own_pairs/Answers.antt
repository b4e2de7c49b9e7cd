use Rattle.world_records.proofs.Drawn.{pairs_are}
use Rattle.world_core.proofs.tables.Tables.own_pairs.Goals as goal

pub returns : goal.returns
returns c w st = rw c.kept_pairs.ensures (pairs_are c.args.self.now c.args.task w st)
