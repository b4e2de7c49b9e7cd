-- The law that replies keep a history legal.
use Rattle.finish_core.proofs.Legal.{replies_keep_legal}
use Rattle.finish_core.proofs.laws.replies_keep_legal.Goals as goal

pub returns : goal.returns
returns c = replies_keep_legal
