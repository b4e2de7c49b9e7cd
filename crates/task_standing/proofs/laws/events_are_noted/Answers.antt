use Rattle.task_standing.proofs.Noted.{events_are_noted}
use Rattle.task_standing.proofs.laws.events_are_noted.Goals as goal

pub returns : goal.returns
returns c = events_are_noted
