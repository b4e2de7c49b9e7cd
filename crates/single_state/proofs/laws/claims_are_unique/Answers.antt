use Rattle.single_state.proofs.Counts.{one_claim}
use Rattle.single_state.proofs.laws.claims_are_unique.Goals as goal

pub returns : goal.returns
returns c = one_claim
