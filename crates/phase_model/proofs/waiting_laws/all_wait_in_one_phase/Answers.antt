use Rattle.phase_model.proofs.OnePhase.{same_phase}
use Rattle.phase_model.proofs.waiting_laws.all_wait_in_one_phase.Goals as goal

pub returns : goal.returns
returns c = λ s t u legal a b. same_phase s t u legal a b
