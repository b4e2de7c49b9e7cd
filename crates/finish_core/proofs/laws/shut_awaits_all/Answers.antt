-- The law that a shut waits for each task.
use Rattle.finish_core.proofs.Awaited.{shut_awaits_all}
use Rattle.finish_core.proofs.laws.shut_awaits_all.Goals as goal

pub returns : goal.returns
returns c = shut_awaits_all
