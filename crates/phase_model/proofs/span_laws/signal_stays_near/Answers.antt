use Rattle.phase_model.proofs.Span.{signal_stays_near}
use Rattle.phase_model.proofs.span_laws.signal_stays_near.Goals as goal

pub returns : goal.returns
returns c = signal_stays_near
