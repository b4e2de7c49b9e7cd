-- Of whom the code asks first: who of the parked ones stands first, and whether a call has added an event.
use Rattle.std.specs.Prelude.{Bool, true, false, List, Option, Some, None, Result, not}
use Rattle.std.specs.List.{find}
use Rattle.phase_modes.specs.declared.refusal.Refusal.{Refusal}
use Rattle.phase_model.specs.Rules.{Story}
use Rattle.phase_model.specs.Waiting.{is_in_open_phase}
use Rattle.phase_model.specs.declared.answer.Signalling.{Signalling}
use Rattle.phase_model.specs.declared.answer.Passing.{Passing}
use Rattle.phaser_core.specs.declared.parked.ParkedCall.{ParkedCall}
use Rattle.phaser_core.specs.declared.parked.ParkedCall.TheVariants.{Pass as ToPass, Signal as ToSignal}
use Rattle.phaser_core.specs.declared.parked.Parked.{Parked}
use Rattle.phaser_core.specs.Parking.{would_park, goes_on, locked_pass, has_signalled, locked_signal}

-- the call is a pass
abbrev pub is_pass : ParkedCall → Bool
is_pass ToPass = true
is_pass (ToSignal x) = false

-- the first of them who waits to pass
abbrev pub first_to_pass : {T : Type 0} → List (Parked T) → Option (Parked T)
first_to_pass ps = find (λ p. is_pass p.call) ps

-- the first of them who waits to signal
abbrev pub first_to_signal : {T : Type 0} → List (Parked T) → Option (Parked T)
first_to_signal ps = find (λ p. not (is_pass p.call)) ps

-- it stands in an open phase; if there is none, that may count as so
abbrev pub is_open_for : {T : Type 0} → Story → Option (Parked T) → Bool
is_open_for s None = true
is_open_for s (Some p) = is_in_open_phase s p.task

-- the first of them who waits to pass stands in an open phase
abbrev pub is_phase_open : {T : Type 0} → Story → List (Parked T) → Bool
is_phase_open s ps = is_open_for s (first_to_pass ps)

-- it would still be answered `NotYet`; if there is none, that may count as so
abbrev pub is_held_for : {T : Type 0} → Story → Option (Parked T) → Bool
is_held_for s None = true
is_held_for s (Some p) = would_park s p.task p.call

-- the first of them who waits to signal would still be answered `NotYet`
abbrev pub is_first_held : {T : Type 0} → Story → List (Parked T) → Bool
is_first_held s ps = is_held_for s (first_to_signal ps)

-- a pass has added an event: whoever asked goes on
abbrev pub has_gone_on : {P : Type 0} → Result (Passing P) Refusal → Bool
has_gone_on a = goes_on (locked_pass a true (tt {0}))

-- a signal has added an event: whoever asked has signalled
abbrev pub is_made : Result Signalling Refusal → Bool
is_made a = has_signalled (locked_signal a true (tt {0}))
