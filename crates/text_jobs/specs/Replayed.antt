-- What replaying a trace's text writes, and how it fails.
use Rattle.std.specs.Prelude.{◌≡◌, ℕ, List, length, nat_le, reverse, if◌then◌else◌, None, Some, Result, Ok, Err, ⊤}
use Rattle.phase_modes.specs.declared.refusal.Refusal.TheVariants.{Memory, BadText, NotExplained}
use Rattle.job_script.specs.Reading.{reading}
use Rattle.world_model.specs.Report.{report_of}
use Rattle.world_model.specs.ReportLines.{report_text}
use Rattle.trace_model.specs.Run.{Run}
use Rattle.trace_model.specs.Explained.{past, first_fault}
use Rattle.trace_text.specs.Form.{form_of}
use Rattle.job_ends.specs.declared.failure.Failure.{Failure}
use Rattle.job_ends.specs.declared.failure.Failure.TheVariants.{Refused, Read, Write}
use Rattle.text_jobs.specs.declared.replaying.TheConstants.{MOST_TRACE_BYTES}

-- the trace that bytes spell, or the place of the first fault; more bytes than a trace's text may have are at
-- fault at 0
abbrev pub trace_spelled : List ℕ → Result Run ℕ
trace_spelled bytes = if nat_le (length bytes) MOST_TRACE_BYTES then form_of (reading bytes) else Err 0

-- the lines of the report of the history that a trace's events are
abbrev pub report_for : Run → List ℕ
report_for t = report_text (report_of t.limits (past (reverse t.events)))

-- the bytes spell a trace without fault, and this is known of it
abbrev pub Explains : List ℕ → (Run → Type 0) → Type 0
Explains bytes P = (t : Run) × (trace_spelled bytes ≡ Ok t) × (first_fault t ≡ None) × P t

-- replaying these bytes fails for want of memory, by their first fault, by the first event of their trace that
-- a world doesn't make there, or by a write for a trace that has no fault
abbrev pub IsOfReplay : List ℕ → Failure → Type 0
IsOfReplay bytes (Refused Memory) = ⊤
IsOfReplay bytes (Refused (BadText p)) = trace_spelled bytes ≡ Err p
IsOfReplay bytes (Refused (NotExplained p)) =
    (t : Run) × (trace_spelled bytes ≡ Ok t) × (first_fault t ≡ Some p)
IsOfReplay bytes (Refused _) = ⊥
IsOfReplay bytes Read = ⊥
IsOfReplay bytes Write = Explains bytes (λ t. ⊤)
