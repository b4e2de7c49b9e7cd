-- Which event a call has added, by its answer.
use Rattle.std.specs.Prelude.{ℕ, ℤ, ◌≡◌, List, ◌∷◌, Option, Some, None, Result, Ok, Err}
use Rattle.phase_modes.specs.declared.refusal.Refusal.{Refusal}
use Rattle.phase_modes.specs.declared.reg.Mode.{Mode}
use Rattle.phase_model.specs.declared.history.Event.{Event}
use Rattle.phase_model.specs.declared.op.Look.{Look}
use Rattle.phaser_core.specs.declared.answer.SignalAnswer.{SignalAnswer}
use Rattle.phaser_core.specs.declared.answer.SignalAnswer.TheVariants.{Signalled, Parked as IsHeld, Refused as NoSignal}
use Rattle.phaser_core.specs.declared.answer.PassAnswer.{PassAnswer}
use Rattle.phaser_core.specs.declared.answer.PassAnswer.TheVariants.{Passed, Claimed, Parked as Waits, Refused}
use Rattle.told_history.specs.declared.wide.LongEvent.{LongEvent}
use Rattle.told_history.specs.declared.wide.LongEvent.TheVariants as long
use Rattle.told_history.specs.Wide.{event_of}

-- the history with this event, if there is one
abbrev pub with_one : Option LongEvent → List Event → List Event
with_one (Some e) h = event_of e ∷ h
with_one None h = h

-- a `make` that gave out a number has registered it
abbrev pub make_event : Mode → Result ℕ Refusal → Option LongEvent
make_event m (Ok t) = Some (long.Make t m)
make_event m (Err r) = None

-- and so has a `register`
abbrev pub register_event : ℕ → Mode → Result ℕ Refusal → Option LongEvent
register_event q m (Ok t) = Some (long.Reg q t m)
register_event q m (Err r) = None

-- a task that is parked has not signalled
abbrev pub signal_event : {T : Type 0} → ℕ → Option ℕ → SignalAnswer T → Option LongEvent
signal_event t x (Signalled y) = Some (long.Sig t x)
signal_event t x IsHeld = None
signal_event t x (NoSignal y r) = None

-- a task has ended its turn, or claimed its single, or has to come again
abbrev pub pass_event : {T : Type 0} → ℕ → PassAnswer T ℕ → Option LongEvent
pass_event t (Passed y p) = Some (long.Pass t)
pass_event t (Claimed y n) = Some (long.Claim t)
pass_event t Waits = None
pass_event t (Refused y r) = None

-- a look that was answered is an event too
abbrev pub look_event : ℕ → ℕ → Result (Look ℤ) Refusal → Option LongEvent
look_event t a (Ok x) = Some (long.Look t a x)
look_event t a (Err r) = None

-- the event of a call that is just done or refused
abbrev pub done_event : LongEvent → Result (Unit {0}) Refusal → Option LongEvent
done_event e (Ok u) = Some e
done_event e (Err r) = None
