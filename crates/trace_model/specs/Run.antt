-- What a trace is.
use Rattle.std.specs.Prelude.{ℕ, List, [], ◌∷◌, ◌++◌}
use Rattle.phase_modes.specs.declared.limits.Limits.{Limits}
use Rattle.trace_model.specs.declared.event.TracedEvent.{TracedEvent}

-- a ticket and its event
abbrev pub Entry : Type 0
Entry = ℕ × TracedEvent

-- the limits of a run, and its events with their tickets, oldest first
pub record Run : Type 0 where
  pub limits : Limits
  pub events : List Entry

-- the run with one event more at its end
abbrev pub with_event : Run → Entry → Run
with_event r e = record { limits = r.limits; events = r.events ++ e ∷ [] }
