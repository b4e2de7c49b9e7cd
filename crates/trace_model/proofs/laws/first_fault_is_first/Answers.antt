use Rattle.trace_model.proofs.Faults.{first}
use Rattle.trace_model.proofs.laws.first_fault_is_first.Goals as goal

pub returns : goal.returns
returns c = first
