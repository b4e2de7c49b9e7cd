use Rattle.live_world.proofs.Parked as law
use Rattle.live_world.proofs.laws.not_all_are_parked.Goals as goal

pub returns : goal.returns
returns c = law.not_all_are_parked
