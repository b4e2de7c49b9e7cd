use Rattle.trace_walk.proofs.Follow.{runs-follow}
use Rattle.trace_walk.proofs.laws.runs_follow.Goals as goal

pub returns : goal.returns
returns c = runs-follow
