use Rattle.trace_model.proofs.Faults.{faultless}
use Rattle.trace_model.proofs.laws.faultless_is_explained.Goals as goal

pub returns : goal.returns
returns c = faultless
