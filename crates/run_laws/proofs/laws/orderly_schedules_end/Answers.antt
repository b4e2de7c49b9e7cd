-- The law that each run by picks ends beside one that is orderly.
use Rattle.run_laws.proofs.OrderlySchedules.{orderly_schedules_end}
use Rattle.run_laws.proofs.laws.orderly_schedules_end.Goals as goal

pub returns : goal.returns
returns c = orderly_schedules_end
