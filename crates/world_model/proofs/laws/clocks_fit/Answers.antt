-- The law that no clock passes the acts of all tasks.
use Rattle.world_model.proofs.ClocksFit.{clocks_fit}
use Rattle.world_model.proofs.laws.clocks_fit.Goals as goal

pub returns : goal.returns
returns c = clocks_fit
