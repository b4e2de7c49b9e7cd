use Rattle.phase_model.proofs.SingleOrder.{one_claim_and_one_report}
use Rattle.phase_model.proofs.single_laws.one_claim_and_one_report.Goals as goal

pub returns : goal.returns
returns c = one_claim_and_one_report
