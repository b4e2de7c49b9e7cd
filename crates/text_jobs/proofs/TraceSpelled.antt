-- The trace that bytes spell, where there are no more than the limit.
use Rattle.std.proofs.Common.{◌≡◌, ℕ, List, length, nat_le, true, refl}
use Rattle.job_script.specs.Reading.{reading}
use Rattle.trace_text.specs.Form.{form_of}
use Rattle.text_jobs.specs.Replayed.{trace_spelled}
use Rattle.text_jobs.specs.declared.replaying.TheConstants.{MOST_TRACE_BYTES}

pub within : (bytes : List ℕ) → nat_le (length bytes) MOST_TRACE_BYTES ≡ true
    → trace_spelled bytes ≡ form_of (reading bytes)
within bytes h = rw h refl
