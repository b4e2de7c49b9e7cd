-- A program by its text, and the texts of a trace's run.
use Rattle.std.specs.Prelude.{◌≡◌, ◌++◌, ◌⊎◌, ℕ, List, length, nat_le, reverse, if◌then◌else◌, Result, Err, codes}
use Rattle.phase_modes.specs.declared.refusal.Refusal.TheVariants.{Memory}
use Rattle.job_script.specs.Reading.{reading}
use Rattle.world_model.specs.declared.event.WorldEvent.{WorldEvent}
use Rattle.world_model.specs.Report.{report_of}
use Rattle.world_model.specs.ReportLines.{report_text}
use Rattle.trace_model.specs.Run.{Run}
use Rattle.trace_model.specs.Explained.{past}
use Rattle.trace_text.specs.Text.{trace_text}
use Rattle.job_script.specs.Program.{Program}
use Rattle.job_script.specs.Form.{form_of}
use Rattle.job_ends.specs.declared.failure.Failure.{Failure}
use Rattle.job_ends.specs.declared.failure.Failure.TheVariants.{Refused, Write}
use Rattle.text_jobs.specs.declared.reading.TheConstants.{MOST_PROGRAM_BYTES}

-- the program that bytes spell, or the place of the first fault; more bytes than a program's text may have are
-- at fault at 0
abbrev pub program_spelled : List ℕ → Result Program ℕ
program_spelled bytes = if nat_le (length bytes) MOST_PROGRAM_BYTES then form_of (reading bytes) else Err 0

-- the history of a trace's events, the newest event first
abbrev pub history : Run → List WorldEvent
history t = past (reverse t.events)

-- the lines of the report of a trace's run
abbrev pub report_for : Program → Run → List ℕ
report_for p t = report_text (report_of p.limits (history t))

-- the text of a trace, with its newline
abbrev pub trace_line : Run → List ℕ
trace_line t = trace_text t ++ codes "\n"

-- why a run's texts aren't written: for want of memory, or by a write
abbrev pub IsOfTexts : Failure → Type 0
IsOfTexts f = (f ≡ Refused Memory) ⊎ (f ≡ Write)
