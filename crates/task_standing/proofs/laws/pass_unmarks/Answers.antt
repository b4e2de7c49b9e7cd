use Rattle.task_standing.proofs.Passes.{pass_unmarks}
use Rattle.task_standing.proofs.laws.pass_unmarks.Goals as goal

pub returns : goal.returns
returns c = pass_unmarks
