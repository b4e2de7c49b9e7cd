use Rattle.trace_walk.proofs.Rounds.{run_rounds_move}
use Rattle.trace_walk.proofs.laws.rounds_move.Goals as goal

pub returns : goal.returns
returns c = run_rounds_move
