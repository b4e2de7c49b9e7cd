-- What a call behind the lock says.
use Rattle.std.specs.Prelude.{ℕ, ℤ, ◌≡◌, ◌-◌, Bool, List, ◌∷◌, Result, Ok, Err}
use Rattle.phase_modes.specs.declared.refusal.Refusal.{Refusal}
use Rattle.phase_model.specs.declared.call.Call.{Call}
use Rattle.phase_model.specs.declared.history.Event.{Event}
use Rattle.phase_model.specs.declared.history.Event.TheVariants.{Look as Looked}
use Rattle.phase_model.specs.declared.op.Look.{Look}
use Rattle.phase_model.specs.declared.op.Op.{Op}
use Rattle.phase_model.specs.declared.terms.Terms.{Terms}
use Rattle.phase_model.specs.Phases.{waits, IsClosed}
use Rattle.phase_model.specs.Replies.{Reply, reply, after, done_result}
use Rattle.phase_model.specs.Rules.{Story, look_of}
use Rattle.phase_model.specs.declared.answer.Signalling.{Signalling}
use Rattle.phase_model.specs.declared.answer.Passing.{Passing}
use Rattle.phaser_core.specs.declared.answer.SignalAnswer.{SignalAnswer}
use Rattle.phaser_core.specs.declared.answer.PassAnswer.{PassAnswer}
use Rattle.phaser_core.specs.declared.answer.PassAnswer.TheVariants.{Passed, Claimed, Parked as Waits, Refused}
use Rattle.phaser_core.specs.Parking.{locked_pass, locked_signal}
use Rattle.phaser_core.specs.LongLife.{long_limits}
use Rattle.told_history.specs.Tails.{IsTail}

-- the phaser that lives long, after these events
abbrev pub story_of : Terms → List Event → Story
story_of terms h = record { limits = long_limits; terms = terms; past = h }

-- The call came at a place of the one history, no earlier than what its caller had seen. What the phaser replied there
-- was answered, and the caller has now seen the history up to that call, and with it.
abbrev pub IsAnswered : (List Event → Reply → Type 0) → Terms → Call → List Event → List Event → Type 0
IsAnswered Is terms c seen now =
    let s : List Event → Story = story_of terms in
    (before : List Event)
    × IsTail seen before
    × Is before (reply (s before) c)
    × (now ≡ (after (s before) (reply (s before) c)).past)

-- the number that is given out if the call is done
abbrev pub numbered : ℕ → Result (Unit {0}) Refusal → Result ℕ Refusal
numbered n (Ok u) = Ok n
numbered n (Err r) = Err r

-- it was the call with some number, which is answered if it is done
abbrev pub IsNumbered : Result ℕ Refusal → Terms → (ℕ → Call) → List Event → List Event → Type 0
IsNumbered answer terms call seen now =
    (n : ℕ) × IsAnswered (λ _ r. answer ≡ numbered n (done_result r)) terms (call n) seen now

-- what the phaser answered to a signal, with the item; a task that has to wait may be parked already, and is refused
abbrev pub IsSignalAnswer : {T : Type 0} → T → Result Signalling Refusal → SignalAnswer T → Type 0
IsSignalAnswer x a answer = (again : Bool) × (answer ≡ locked_signal a again x)

-- what it answered to a pass, in the same way
abbrev pub IsPassAnswer : {T : Type 0} → T → Result (Passing ℕ) Refusal → PassAnswer T ℕ → Type 0
IsPassAnswer x a answer = (again : Bool) × (answer ≡ locked_pass a again x)

-- this holds of the phase that was passed, if one was
abbrev pub IfPassed : {T : Type 0} → PassAnswer T ℕ → (ℕ → Type 0) → Type 0
IfPassed (Passed x p) P = P p
IfPassed (Claimed x n) P = Unit {0}
IfPassed Waits P = Unit {0}
IfPassed (Refused x r) P = Unit {0}

-- The newest event is the task's look. It saw the fold of all values that were sent for the phase before the task's own,
-- which was closed.
abbrev pub HasLooked : List Op → ℕ → ℕ → List Event → Look ℤ → Type 0
HasLooked ops t a h x =
    (before : List Event)
    × (h ≡ Looked t a x ∷ before)
    × IsClosed (waits t before - 1) before
    × (x ≡ look_of ops a (waits t before) h)
