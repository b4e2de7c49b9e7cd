-- The law that each event stands where it should.
use Rattle.finish_core.proofs.Orderly.{legal_is_orderly}
use Rattle.finish_core.proofs.laws.legal_is_orderly.Goals as goal

pub returns : goal.returns
returns c = legal_is_orderly
