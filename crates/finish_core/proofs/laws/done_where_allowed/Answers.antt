-- The law that a call is done exactly where its event is allowed.
use Rattle.finish_core.proofs.Legal.{done_where_allowed}
use Rattle.finish_core.proofs.laws.done_where_allowed.Goals as goal

pub returns : goal.returns
returns c = done_where_allowed
