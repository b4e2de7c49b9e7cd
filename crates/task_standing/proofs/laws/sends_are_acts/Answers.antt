use Rattle.task_standing.proofs.Alike.{sends_are_acts}
use Rattle.task_standing.proofs.laws.sends_are_acts.Goals as goal

pub returns : goal.returns
returns c = sends_are_acts
