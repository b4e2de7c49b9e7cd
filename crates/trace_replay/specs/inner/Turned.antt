-- Parts that are merged in turn, by a guess whose turn it is.
use Rattle.std.specs.Prelude.{◌≡◌, ℕ, ◌<◌, Ok, List, length, get_or, []}
use Rattle.phase_modes.specs.declared.limits.Limits.{Limits}
use Rattle.trace_model.specs.Run.{Entry, Run}
use Rattle.trace_replay.specs.declared.merging.Mark.{Mark}
use Rattle.trace_replay.specs.Merging.{IsMerged, Traces}

-- it is the trace of these parts, in which no event is at fault
abbrev pub IsTurned : Limits → List (List Entry) → Run → Type 0
IsTurned l parts r = (ms : List Mark) × IsMerged parts ms × Traces l ms (Ok r)

-- of each part all entries were taken
abbrev pub AreTaken : List (List Entry) → List ℕ → Type 0
AreTaken parts next = (k : ℕ) → k < length parts → get_or next k 0 ≡ length (get_or parts k [])
