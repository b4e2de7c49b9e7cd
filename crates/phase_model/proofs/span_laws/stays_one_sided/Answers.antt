use Rattle.phase_model.proofs.Span.{stays_one_sided}
use Rattle.phase_model.proofs.span_laws.stays_one_sided.Goals as goal

pub returns : goal.returns
returns c = stays_one_sided
