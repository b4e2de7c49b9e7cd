use Rattle.phase_model.proofs.Span.{legal_is_spanned}
use Rattle.phase_model.proofs.span_laws.legal_is_spanned.Goals as goal

pub returns : goal.returns
returns c = legal_is_spanned
