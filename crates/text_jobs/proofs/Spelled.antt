-- The program that bytes spell, where there are no more than the limit.
use Rattle.std.proofs.Common.{◌≡◌, ℕ, List, length, nat_le, true, refl}
use Rattle.job_script.specs.Reading.{reading}
use Rattle.job_script.specs.Form.{form_of}
use Rattle.text_jobs.specs.Texts.{program_spelled}
use Rattle.text_jobs.specs.declared.reading.TheConstants.{MOST_PROGRAM_BYTES}

pub within : (bytes : List ℕ) → nat_le (length bytes) MOST_PROGRAM_BYTES ≡ true
    → program_spelled bytes ≡ form_of (reading bytes)
within bytes h = rw h refl
