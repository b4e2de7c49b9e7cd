-- What a run by picks makes, event by event.
use Rattle.std.specs.Prelude.{ℕ, zero, suc, ◌+◌, ◌&&◌, not, if◌then◌else◌, List, [], ◌∷◌, Option, Some, None, Result, Ok, Err}
use Rattle.phase_modes.specs.declared.limits.Limits.{Limits}
use Rattle.phase_modes.specs.declared.refusal.Refusal.{Refusal}
use Rattle.phase_modes.specs.Refusal.{number_of}
use Rattle.job_script.specs.Program.{Program}
use Rattle.finish_core.specs.declared.event.FinishEvent.TheVariants.{Opened}
use Rattle.world_model.specs.declared.event.Step.TheVariants.{Make, Send, Look}
use Rattle.world_model.specs.declared.event.Tried.{Tried}
use Rattle.world_model.specs.declared.event.Tried.TheVariants.{Begun as Beginning, New, Open, Send as Sending, Look as Looking}
use Rattle.world_model.specs.declared.event.WorldEvent.{WorldEvent}
use Rattle.world_model.specs.declared.event.WorldEvent.TheVariants.{Phaser, Finish, Begin, Refuse, Fail}
use Rattle.world_model.specs.declared.reply.Reply.{Reply}
use Rattle.world_model.specs.Due.{next_event, is_idle}
use Rattle.world_model.specs.Replies.{after, reply}
use Rattle.world_model.specs.Drawing.{least_unused}
use Rattle.world_model.specs.Numbers.{is_phaser, is_finish, is_named}
use Rattle.world_model.specs.Tasks.{is_born, is_ended}
use Rattle.trace_walk.specs.Scripts.{Numbers, tried}

-- ---- numbers

-- the least numbers that are not in use
abbrev pub unused : Limits → List WorldEvent → Numbers
unused l w = record {
  phaser = least_unused (λ n. is_phaser n w) l.phasers;
  task = least_unused (λ t. is_named t w) l.tasks;
  finish = least_unused (λ f. is_finish f w) l.finishes;
}

-- ---- one pick

-- the event by which a task makes an act
abbrev pub event_of : ℕ → Tried → WorldEvent
event_of t (New n m terms) = Phaser n (Make t m terms)
event_of t (Open f) = Finish f (Opened t)
event_of t (Sending n a v) = Phaser n (Send t a v)
event_of t (Looking n a) = Phaser n (Look t a)
event_of t (Beginning b) = Begin t b

-- what a task does if it is picked: the event that it asks for, and how it reports a refusal in its log
pub record Asked : Type 0 where
  pub event : WorldEvent
  pub reporting : ℕ → WorldEvent

-- a task goes on with its act by this event, if there is one, and gives it up if that is refused
abbrev pub going_on : ℕ → Option WorldEvent → Option Asked
going_on t None = None
going_on t (Some e) = Some (record { event = e; reporting = λ n. Fail t n })

-- an idle task begins its next act, and any other goes on with its act
abbrev pub asked : Program → List WorldEvent → ℕ → Option Asked
asked p w t =
    if is_idle t w then Some (record {
      event = event_of t (tried p w t (unused p.limits w));
      reporting = λ n. Refuse t (tried p w t (unused p.limits w)) n;
    })
    else (if is_born t w && not (is_ended t w) then going_on t (next_event p.limits t w)
    else None)

-- an event that isn't refused is made, or is not yet made; in place of one that is refused the refusal is reported
abbrev pub reported_or : Limits → List WorldEvent → Asked → Result Reply Refusal → List WorldEvent
reported_or l w a (Err r) = after w (a.reporting (number_of r)) (reply l w (a.reporting (number_of r)))
reported_or l w a (Ok x) = after w a.event (Ok x)

-- the history after what a task asks for
abbrev pub made : Limits → List WorldEvent → Option Asked → List WorldEvent
made l w None = w
made l w (Some a) = reported_or l w a (reply l w a.event)

-- the history after t is picked
abbrev pub pick : Program → List WorldEvent → ℕ → List WorldEvent
pick p w t = made p.limits w (asked p w t)

-- ---- a run

-- the history after a list of picks
abbrev pub picked : Program → List WorldEvent → List ℕ → List WorldEvent
picked p w [] = w
picked p w (t ∷ ts) = picked p (pick p w t) ts

-- a round picks the tasks by number; task numbers are drawn without gaps, so it ends at the first that isn't in use
abbrev pub round_from : ℕ → ℕ → Program → List WorldEvent → List WorldEvent
round_from zero t p w = w
round_from (suc left) t p w = if is_named t w then round_from left (t + 1) p (pick p w t) else w

-- at most so many rounds, until the root has ended
abbrev pub rounds : ℕ → Program → List WorldEvent → List WorldEvent
rounds zero p w = w
rounds (suc more) p w = if is_ended 0 w then w else rounds more p (round_from p.limits.tasks 0 p w)

-- the list first, and then rounds, at most so many
abbrev pub run_within : ℕ → Program → List ℕ → List WorldEvent
run_within most p picks = rounds most p (picked p [] picks)
