use Rattle.task_standing.proofs.Named.{unborn_are_named}
use Rattle.task_standing.proofs.laws.unborn_are_named.Goals as goal

pub returns : goal.returns
returns c = unborn_are_named
