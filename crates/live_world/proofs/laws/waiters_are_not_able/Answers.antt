use Rattle.live_world.proofs.Waiters as law
use Rattle.live_world.proofs.laws.waiters_are_not_able.Goals as goal

pub returns : goal.returns
returns c = law.waiters_are_not_able
