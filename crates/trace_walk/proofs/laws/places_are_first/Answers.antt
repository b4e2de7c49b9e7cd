use Rattle.trace_walk.proofs.FirstPlaces.{places-first}
use Rattle.trace_walk.proofs.laws.places_are_first.Goals as goal

pub returns : goal.returns
returns c = places-first
