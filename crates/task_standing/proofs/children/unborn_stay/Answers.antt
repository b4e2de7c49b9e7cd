use Rattle.task_standing.proofs.Unborn.{unborn_stay}
use Rattle.task_standing.proofs.children.unborn_stay.Goals as goal

pub returns : goal.returns
returns c = unborn_stay
