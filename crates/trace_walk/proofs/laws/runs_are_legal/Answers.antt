use Rattle.trace_walk.proofs.Legal.{runs-legal}
use Rattle.trace_walk.proofs.laws.runs_are_legal.Goals as goal

pub returns : goal.returns
returns c = runs-legal
