use Rattle.task_standing.proofs.Begins.{failures_end}
use Rattle.task_standing.proofs.laws.failures_end.Goals as goal

pub returns : goal.returns
returns c = failures_end
