use Rattle.trace_walk.proofs.Failures.{runs_give_up}
use Rattle.trace_walk.proofs.laws.runs_give_up.Goals as goal

pub returns : goal.returns
returns c = runs_give_up
