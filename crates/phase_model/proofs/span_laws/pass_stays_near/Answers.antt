use Rattle.phase_model.proofs.Span.{pass_stays_near}
use Rattle.phase_model.proofs.span_laws.pass_stays_near.Goals as goal

pub returns : goal.returns
returns c = pass_stays_near
