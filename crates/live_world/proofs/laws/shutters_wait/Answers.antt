use Rattle.live_world.proofs.Parked as law
use Rattle.live_world.proofs.laws.shutters_wait.Goals as goal

pub returns : goal.returns
returns c = law.shutters_wait
