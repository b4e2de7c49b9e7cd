use Rattle.task_standing.proofs.Finishes.{openings_open}
use Rattle.task_standing.proofs.laws.openings_open.Goals as goal

pub returns : goal.returns
returns c = openings_open
