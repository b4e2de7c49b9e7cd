use Rattle.single_state.proofs.Counts.{one_report}
use Rattle.single_state.proofs.laws.reports_are_unique.Goals as goal

pub returns : goal.returns
returns c = one_report
