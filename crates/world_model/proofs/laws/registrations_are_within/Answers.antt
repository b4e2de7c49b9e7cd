use Rattle.world_model.proofs.RegisteredInScope.{registrations_are_within}
use Rattle.world_model.proofs.laws.registrations_are_within.Goals as goal

pub returns : goal.returns
returns c = registrations_are_within
