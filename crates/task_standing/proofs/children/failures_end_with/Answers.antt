use Rattle.task_standing.proofs.Begins.{failures_end_with}
use Rattle.task_standing.proofs.children.failures_end_with.Goals as goal

pub returns : goal.returns
returns c = failures_end_with
