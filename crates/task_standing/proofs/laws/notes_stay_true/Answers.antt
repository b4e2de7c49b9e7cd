use Rattle.task_standing.proofs.Always.{notes_stay_true}
use Rattle.task_standing.proofs.laws.notes_stay_true.Goals as goal

pub returns : goal.returns
returns c = notes_stay_true
