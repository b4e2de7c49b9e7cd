-- The law that a run by picks whose numbers are drawn in order foretells each other one.
use Rattle.run_laws.proofs.OrderlySchedules.{orderly_schedules_foretell}
use Rattle.run_laws.proofs.laws.orderly_schedules_foretell.Goals as goal

pub returns : goal.returns
returns c = orderly_schedules_foretell
