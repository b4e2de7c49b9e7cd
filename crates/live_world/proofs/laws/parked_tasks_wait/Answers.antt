use Rattle.live_world.proofs.Parked as law
use Rattle.live_world.proofs.laws.parked_tasks_wait.Goals as goal

pub returns : goal.returns
returns c = law.parked_tasks_wait
