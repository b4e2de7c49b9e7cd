use Rattle.task_standing.proofs.Births.{roots_start_fresh}
use Rattle.task_standing.proofs.laws.roots_start_fresh.Goals as goal

pub returns : goal.returns
returns c = roots_start_fresh
