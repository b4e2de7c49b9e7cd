use Rattle.task_standing.proofs.Finishes.{shuts_shut}
use Rattle.task_standing.proofs.laws.shuts_shut.Goals as goal

pub returns : goal.returns
returns c = shuts_shut
