use Rattle.trace_text.proofs.Noted.{explained_note}
use Rattle.trace_text.proofs.laws.explained_note_refusals.Goals as goal

pub returns : goal.returns
returns c = explained_note
