use Rattle.task_standing.proofs.Making.{makings_hold}
use Rattle.task_standing.proofs.laws.makings_hold.Goals as goal

pub returns : goal.returns
returns c = makings_hold
