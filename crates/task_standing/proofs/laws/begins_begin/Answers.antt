use Rattle.task_standing.proofs.Begins.{begins_begin}
use Rattle.task_standing.proofs.laws.begins_begin.Goals as goal

pub returns : goal.returns
returns c = begins_begin
