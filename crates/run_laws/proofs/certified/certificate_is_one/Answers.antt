use Rattle.run_laws.proofs.Whole.{certificate_is_one}
use Rattle.run_laws.proofs.certified.certificate_is_one.Goals as goal

pub returns : goal.returns
returns c = certificate_is_one
