use Rattle.phase_model.proofs.Waiting.{stays}
use Rattle.phase_model.proofs.waiting_laws.others_free_nobody.Goals as goal

pub returns : goal.returns
returns c = λ s e t legal k waiting. stays s t waiting e k legal
