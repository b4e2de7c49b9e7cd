-- Who waits at a phaser, and what a signal and a pass answer that may park their task.
use Rattle.std.specs.Prelude.{ℕ, ◌≡◌, refl, Bool, true, false, ◌==◌, ◌&&◌, ◌++◌, ◌∷◌, [], List, Option, Result, Ok, Err, not, map, filter}
use Rattle.std.specs.List.{list_any, list_all}
use Rattle.phase_modes.specs.declared.refusal.Refusal.{Refusal}
use Rattle.phase_modes.specs.declared.refusal.Refusal.TheVariants.{NotNow}
use Rattle.phase_model.specs.Rules.{Story}
use Rattle.phase_model.specs.Waiting.{would_wait, signal_would_wait}
use Rattle.phase_model.specs.declared.answer.Signalling.{Signalling}
use Rattle.phase_model.specs.declared.answer.Signalling.TheVariants.{Signalled as Sent, NotYet as Held}
use Rattle.phase_model.specs.declared.answer.Passing.{Passing}
use Rattle.phase_model.specs.declared.answer.Passing.TheVariants.{Passed as Over, Claimed as Run, NotYet}
use Rattle.phase_model.specs.declared.call.Call.TheVariants.{Signal as signal, Pass as pass}
use Rattle.phase_model.specs.Replies.{reply}
use Rattle.phase_model.specs.Answers.{signal_result, pass_result}
use Rattle.phaser_core.specs.declared.answer.SignalAnswer.{SignalAnswer}
use Rattle.phaser_core.specs.declared.answer.SignalAnswer.TheVariants.{Signalled, Parked as IsHeld, Refused as NoSignal}
use Rattle.phaser_core.specs.declared.answer.PassAnswer.{PassAnswer}
use Rattle.phaser_core.specs.declared.answer.PassAnswer.TheVariants.{Passed, Claimed, Parked as Waits, Refused}
use Rattle.phaser_core.specs.declared.parked.ParkedCall.{ParkedCall}
use Rattle.phaser_core.specs.declared.parked.ParkedCall.TheVariants.{Pass as ToPass, Signal as ToSignal}
use Rattle.phaser_core.specs.declared.parked.Parked.{Parked}

-- the task is among the parked ones
abbrev pub is_parked : {T : Type 0} → ℕ → List (Parked T) → Bool
is_parked t ps = list_any (λ p. p.task == t) ps

-- no task is parked twice
abbrev pub are_parked_once : {T : Type 0} → List (Parked T) → Bool
are_parked_once [] = true
are_parked_once (p ∷ ps) = not (is_parked p.task ps) && are_parked_once ps

-- this call of the task would be answered `NotYet`
abbrev pub would_park : Story → ℕ → ParkedCall → Bool
would_park s t ToPass = would_wait s t
would_park s t (ToSignal x) = signal_would_wait s t x

-- each of them would still be answered `NotYet` to the call for which it is parked
abbrev pub all_wait : {T : Type 0} → Story → List (Parked T) → Bool
all_wait s ps = list_all (λ p. would_park s p.task p.call) ps

-- those who still would
abbrev pub waiting : {T : Type 0} → Story → List (Parked T) → List (Parked T)
waiting s ps = filter (λ p. would_park s p.task p.call) ps

-- the items of those who would not any more
abbrev pub freed : {T : Type 0} → Story → List (Parked T) → List T
freed s ps = map (λ p. p.item) (filter (λ p. not (would_park s p.task p.call)) ps)

-- what a pass with an item answers, by what the phaser answers and whether the task is parked already
abbrev pub locked_pass : {T P : Type 0} → Result (Passing P) Refusal → Bool → T → PassAnswer T P
locked_pass (Ok (Over p)) again x = Passed x p
locked_pass (Ok (Run n)) again x = Claimed x n
locked_pass (Ok NotYet) true x = Refused x NotNow
locked_pass (Ok NotYet) false x = Waits
locked_pass (Err r) again x = Refused x r

-- such an answer says that an event was added
abbrev pub goes_on : {T P : Type 0} → PassAnswer T P → Bool
goes_on (Passed x p) = true
goes_on (Claimed x n) = true
goes_on Waits = false
goes_on (Refused x r) = false

-- the item that comes back with it, if one does, is this one
abbrev pub IsBack : {T P : Type 0} → T → PassAnswer T P → Type 0
IsBack x (Passed y p) = y ≡ x
IsBack x (Claimed y n) = y ≡ x
IsBack x Waits = Unit {0}
IsBack x (Refused y r) = y ≡ x

-- who is parked after a call: its task too, if it has to wait and isn't parked already
abbrev pub parking : {T : Type 0} → Bool → Bool → Parked T → List (Parked T) → List (Parked T)
parking true false p ps = ps ++ p ∷ []
parking true true p ps = ps
parking false again p ps = ps

-- it has to wait
abbrev pub has_to_wait : {P : Type 0} → Result (Passing P) Refusal → Bool
has_to_wait (Ok (Over p)) = false
has_to_wait (Ok (Run n)) = false
has_to_wait (Ok NotYet) = true
has_to_wait (Err r) = false

-- what the phaser answers to a pass; no abbreviation, so that a search leaves it shut
pub answered : Story → ℕ → Result (Passing ℕ) Refusal
answered s t = pass_result s.past (reply s (pass t))

pub answered_is : (s : Story) (t : ℕ) → pass_result s.past (reply s (pass t)) ≡ answered s t
unfolding answered
answered_is s t = refl

-- what a signal with an item answers, by what the phaser answers and whether the task is parked already
abbrev pub locked_signal : {T : Type 0} → Result Signalling Refusal → Bool → T → SignalAnswer T
locked_signal (Ok Sent) again x = Signalled x
locked_signal (Ok Held) true x = NoSignal x NotNow
locked_signal (Ok Held) false x = IsHeld
locked_signal (Err r) again x = NoSignal x r

-- such an answer says that an event was added
abbrev pub has_signalled : {T : Type 0} → SignalAnswer T → Bool
has_signalled (Signalled x) = true
has_signalled IsHeld = false
has_signalled (NoSignal x r) = false

-- the item that comes back with it, if one does, is this one
abbrev pub IsBackFromSignal : {T : Type 0} → T → SignalAnswer T → Type 0
IsBackFromSignal x (Signalled y) = y ≡ x
IsBackFromSignal x IsHeld = Unit {0}
IsBackFromSignal x (NoSignal y r) = y ≡ x

-- it is held
abbrev pub is_held : Result Signalling Refusal → Bool
is_held (Ok Sent) = false
is_held (Ok Held) = true
is_held (Err r) = false

-- what the phaser answers to a signal; no abbreviation either
pub signal_answered : Story → ℕ → Option ℕ → Result Signalling Refusal
signal_answered s t x = signal_result (reply s (signal t x))

pub signal_answered_is : (s : Story) (t : ℕ) (x : Option ℕ)
    → signal_result (reply s (signal t x)) ≡ signal_answered s t x
unfolding signal_answered
signal_answered_is s t x = refl
