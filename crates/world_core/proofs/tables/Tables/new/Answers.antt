-- The first state stands for the empty history.
use Rattle.world_records.proofs.First.{first_stands}
use Rattle.world_core.proofs.tables.Tables.new.Goals as goal

pub returns-clause-stands : goal.returns-clause-stands
returns-clause-stands c = rw c.in_ok-tables.ensures.first (first_stands c.args.limits c.requires)
