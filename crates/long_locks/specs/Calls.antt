-- A task's own call: what it is answered, and how things stand before those who are parked make theirs.
use Rattle.std.specs.Prelude.{ℕ, Bool, true, false, Option, List, []}
use Rattle.phase_modes.specs.declared.refusal.Refusal.TheVariants.{NotNow}
use Rattle.phase_model.specs.Rules.{Story}
use Rattle.phaser_core.specs.declared.parked.Parked.{Parked}
use Rattle.phaser_core.specs.declared.parked.ParkedCall.TheVariants.{Signal as ToSignal}
use Rattle.long_locks.specs.declared.answer.Ended.TheVariants.{Refused}
use Rattle.long_locks.specs.declared.answer.AskAnswer.{AskAnswer}
use Rattle.long_locks.specs.declared.answer.AskAnswer.TheVariants.{Ended as HasEnded}
use Rattle.long_locks.specs.declared.course.Then.{Then}
use Rattle.long_locks.specs.declared.course.Then.TheVariants.{Return, Pass as ThenPass}
use Rattle.long_locks.specs.declared.course.Course.{Course}
use Rattle.long_locks.specs.declared.course.Course.TheVariants.{Over, HasSignalled, Waits}
use Rattle.long_locks.specs.Courses.{course, story_after, is_refused, answer_of}
use Rattle.long_locks.specs.Turns.{Standing, standing, to_pass, queue_after}

-- parked for its signal
abbrev pub to_signal : ℕ → Option ℕ → Parked Then
to_signal t x = record { task = t; call = ToSignal x; item = Return }

-- parked for its signal, and then to pass
abbrev pub to_go_on : ℕ → Option ℕ → Parked Then
to_go_on t x = record { task = t; call = ToSignal x; item = ThenPass }

-- how far a task's own call came, the story then, and for what the task waits if it has to
pub record Called : Type 0 where
  pub course : Course
  pub story : Story
  pub waiter : Parked Then

-- one call on the phaser
abbrev pub called_once : Story → Parked Then → Called
called_once s p = record {
  course = course s p.task p.call p.item;
  story = story_after s p.task p.call;
  waiter = p;
}

-- who has signalled, and is to pass, asks to pass at once
abbrev pub called_on : Course → Story → Parked Then → Called
called_on (Over e) s p = record { course = Over e; story = s; waiter = p }
called_on HasSignalled s p = called_once s (to_pass p.task)
called_on Waits s p = record { course = Waits; story = s; waiter = p }

-- the whole of a task's own call
abbrev pub called : Story → Parked Then → Called
called s p = called_on (course s p.task p.call p.item) (story_after s p.task p.call) p

-- what it is answered; not now, if the task is parked already
abbrev pub answer_to : Bool → Called → AskAnswer
answer_to true k = HasEnded (Refused NotNow)
answer_to false k = answer_of k.course

-- how things stand after it: the task is parked if it has to wait; nothing is changed if it is parked
-- already
abbrev pub standing_after : Bool → Called → Story → List (Parked Then) → Standing
standing_after true k s ps = standing s ps []
standing_after false k s ps = standing k.story (queue_after k.course k.waiter ps) []

-- its first call on the phaser is refused, or isn't made, since the task is parked already
abbrev pub is_turned_away : Bool → Course → Bool
is_turned_away true c = true
is_turned_away false c = is_refused c
