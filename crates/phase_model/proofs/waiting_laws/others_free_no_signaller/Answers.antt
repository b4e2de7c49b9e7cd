use Rattle.phase_model.proofs.Bounded.{others_free_no_signaller}
use Rattle.phase_model.proofs.waiting_laws.others_free_no_signaller.Goals as goal

pub returns : goal.returns
returns c = others_free_no_signaller
