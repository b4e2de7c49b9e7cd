use Rattle.trace_model.proofs.Owners.{phasers_tell, finishes_tell}
use Rattle.trace_model.proofs.laws.parts_have_owners.Goals as goal

pub returns : goal.returns
returns c = record { phasers = phasers_tell; finishes = finishes_tell }
