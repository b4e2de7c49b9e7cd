-- The events file that bytes spell, within the limit of their number.
use Rattle.std.specs.Prelude.{ℕ, List, length, nat_le, if◌then◌else◌, Result, Err}
use Rattle.job_script.specs.Reading.{reading}
use Rattle.text_jobs.specs.EventsForm.{Form, form_of}
use Rattle.text_jobs.specs.declared.events.TheConstants.{MOST_EVENTS_BYTES}

-- the file, or the place of the first fault; more bytes than an events file may have are at fault at 0
abbrev pub file_spelled : List ℕ → Result Form ℕ
file_spelled bytes = if nat_le (length bytes) MOST_EVENTS_BYTES then form_of (reading bytes) else Err 0
