use Rattle.live_world.proofs.Counted as law
use Rattle.live_world.proofs.laws.counts_tell.Goals as goal

pub returns : goal.returns
returns c = law.counts_tell
