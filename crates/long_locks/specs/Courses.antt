-- How far one call of a task comes, by what the phaser answers to it.
use Rattle.std.specs.Prelude.{ℕ, Bool, true, false, Result, Ok, Err}
use Rattle.phase_modes.specs.declared.refusal.Refusal.{Refusal}
use Rattle.phase_model.specs.Rules.{Story}
use Rattle.phase_model.specs.declared.call.Call.{Call}
use Rattle.phase_model.specs.declared.call.Call.TheVariants.{Signal as signal, Pass as pass}
use Rattle.phase_model.specs.Replies.{reply, after}
use Rattle.phase_model.specs.declared.answer.Signalling.{Signalling}
use Rattle.phase_model.specs.declared.answer.Signalling.TheVariants.{Signalled as Sent, NotYet as Held}
use Rattle.phase_model.specs.declared.answer.Passing.{Passing}
use Rattle.phase_model.specs.declared.answer.Passing.TheVariants.{Passed as Past, Claimed as Run, NotYet}
use Rattle.phaser_core.specs.declared.parked.ParkedCall.{ParkedCall}
use Rattle.phaser_core.specs.declared.parked.ParkedCall.TheVariants.{Pass as ToPass, Signal as ToSignal}
use Rattle.phaser_core.specs.Parking.{answered, signal_answered}
use Rattle.long_locks.specs.declared.answer.Ended.{Ended}
use Rattle.long_locks.specs.declared.answer.Ended.TheVariants.{Signalled, Passed, Claimed, Refused}
use Rattle.long_locks.specs.declared.answer.AskAnswer.{AskAnswer}
use Rattle.long_locks.specs.declared.answer.AskAnswer.TheVariants.{Ended as HasEnded, Parked as IsParked}
use Rattle.long_locks.specs.declared.course.Then.{Then}
use Rattle.long_locks.specs.declared.course.Then.TheVariants.{Return, Pass as ThenPass}
use Rattle.long_locks.specs.declared.course.Course.{Course}
use Rattle.long_locks.specs.declared.course.Course.TheVariants.{Over, HasSignalled, Waits}

-- the phaser's call for which a task is parked
abbrev pub call_for : ℕ → ParkedCall → Call
call_for t ToPass = pass t
call_for t (ToSignal x) = signal t x

-- the story after that call
unfoldable pub story_after : Story → ℕ → ParkedCall → Story
story_after s t c = after s (reply s (call_for t c))

-- how far a pass comes
abbrev pub pass_course : Result (Passing ℕ) Refusal → Course
pass_course (Ok (Past p)) = Over (Passed p)
pass_course (Ok (Run n)) = Over (Claimed n)
pass_course (Ok NotYet) = Waits
pass_course (Err r) = Over (Refused r)

-- once the signal is made
abbrev pub signalled_course : Then → Course
signalled_course Return = Over Signalled
signalled_course ThenPass = HasSignalled

-- how far a signal comes
abbrev pub signal_course : Then → Result Signalling Refusal → Course
signal_course a (Ok Sent) = signalled_course a
signal_course a (Ok Held) = Waits
signal_course a (Err r) = Over (Refused r)

-- how far the call comes
abbrev pub course : Story → ℕ → ParkedCall → Then → Course
course s t ToPass a = pass_course (answered s t)
course s t (ToSignal x) a = signal_course a (signal_answered s t x)

-- a call that ended so was not refused
abbrev pub is_granted : Ended → Bool
is_granted Signalled = true
is_granted (Passed p) = true
is_granted (Claimed n) = true
is_granted (Refused r) = false

-- an event was added
abbrev pub has_moved : Course → Bool
has_moved (Over e) = is_granted e
has_moved HasSignalled = true
has_moved Waits = false

-- the call has ended
abbrev pub is_over : Course → Bool
is_over (Over e) = true
is_over HasSignalled = false
is_over Waits = false

-- the call was refused
abbrev pub is_refused : Course → Bool
is_refused (Over (Refused r)) = true
is_refused (Over e) = false
is_refused HasSignalled = false
is_refused Waits = false

-- what the task is answered; it is parked if its call isn't over
abbrev pub answer_of : Course → AskAnswer
answer_of (Over e) = HasEnded e
answer_of HasSignalled = IsParked
answer_of Waits = IsParked
