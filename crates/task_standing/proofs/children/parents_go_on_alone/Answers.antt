use Rattle.task_standing.proofs.Unborn.{parents_go_on_alone}
use Rattle.task_standing.proofs.children.parents_go_on_alone.Goals as goal

pub returns : goal.returns
returns c = parents_go_on_alone
