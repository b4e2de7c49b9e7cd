use Rattle.trace_model.proofs.Legal.{explained_legal}
use Rattle.trace_model.proofs.laws.explained_is_legal.Goals as goal

pub returns : goal.returns
returns c = explained_legal
