use Rattle.task_standing.proofs.Few.{plans_name_few}
use Rattle.task_standing.proofs.laws.plans_name_few.Goals as goal

pub returns : goal.returns
returns c = plans_name_few
