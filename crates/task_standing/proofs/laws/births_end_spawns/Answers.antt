use Rattle.task_standing.proofs.Finishes.{births_end_spawns}
use Rattle.task_standing.proofs.laws.births_end_spawns.Goals as goal

pub returns : goal.returns
returns c = births_end_spawns
