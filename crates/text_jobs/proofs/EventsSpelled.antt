-- The file that bytes spell, where there are no more than the limit.
use Rattle.std.proofs.Common.{◌≡◌, ℕ, List, length, nat_le, true, refl}
use Rattle.job_script.specs.Reading.{reading}
use Rattle.text_jobs.specs.EventsForm.{form_of}
use Rattle.text_jobs.specs.EventsFiles.{file_spelled}
use Rattle.text_jobs.specs.declared.events.TheConstants.{MOST_EVENTS_BYTES}

pub within : (bytes : List ℕ) → nat_le (length bytes) MOST_EVENTS_BYTES ≡ true
    → file_spelled bytes ≡ form_of (reading bytes)
within bytes h = rw h refl
