use Rattle.task_standing.proofs.Alike.{looks_are_acts}
use Rattle.task_standing.proofs.laws.looks_are_acts.Goals as goal

pub returns : goal.returns
returns c = looks_are_acts
