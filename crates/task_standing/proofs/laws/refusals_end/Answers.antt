use Rattle.task_standing.proofs.Begins.{refusals_end}
use Rattle.task_standing.proofs.laws.refusals_end.Goals as goal

pub returns : goal.returns
returns c = refusals_end
