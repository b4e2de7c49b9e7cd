use Rattle.trace_text.proofs.Whole.{older_text_is_read_back}
use Rattle.trace_text.proofs.laws.older_texts_are_read_back.Goals as goal

pub returns : goal.returns
returns c = older_text_is_read_back
