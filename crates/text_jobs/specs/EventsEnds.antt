-- How the job of answering an events file fails.
use Rattle.std.specs.Prelude.{◌≡◌, ℕ, List, Ok, Err, ⊤}
use Rattle.text_jobs.specs.EventsForm.{Form}
use Rattle.phase_modes.specs.declared.refusal.Refusal.TheVariants.{Memory, BadText}
use Rattle.job_ends.specs.declared.failure.Failure.{Failure}
use Rattle.job_ends.specs.declared.failure.Failure.TheVariants.{Refused, Read, Write}
use Rattle.text_jobs.specs.EventsFiles.{file_spelled}

-- answering these bytes fails for want of memory,
-- by their first fault, or by a write for a file that has none
abbrev pub IsOfAnswer : List ℕ → Failure → Type 0
IsOfAnswer bytes (Refused Memory) = ⊤
IsOfAnswer bytes (Refused (BadText p)) = file_spelled bytes ≡ Err p
IsOfAnswer bytes (Refused _) = ⊥
IsOfAnswer bytes Read = ⊥
IsOfAnswer bytes Write = (file : Form) × (file_spelled bytes ≡ Ok file)
