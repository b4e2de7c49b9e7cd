-- What replaying a trace says.
use Rattle.std.specs.Prelude.{◌≡◌, reverse, Some, None, Result, Ok, Err}
use Rattle.phase_modes.specs.declared.refusal.Refusal.{Refusal}
use Rattle.phase_modes.specs.declared.refusal.Refusal.TheVariants.{Memory, NotExplained}
use Rattle.world_model.specs.Report.{Report, report_of}
use Rattle.trace_model.specs.Run.{Run}
use Rattle.trace_model.specs.Explained.{past, first_fault}

-- why a replay is refused: memory ran out, or this is the place of the trace's first fault
abbrev pub IsRefused : Run → Refusal → Type 0
IsRefused r Memory = Unit {0}
IsRefused r (NotExplained p) = first_fault r ≡ Some p
IsRefused r _ = ⊥

-- the trace has no fault, and this is the report of the history that its events are; or the replay is refused
abbrev pub Replays : Run → Result Report Refusal → Type 0
Replays r (Ok report) = (first_fault r ≡ None) × (report ≡ report_of r.limits (past (reverse r.events)))
Replays r (Err e) = IsRefused r e
