-- What each task of a history does, told by itself: its own events, what it heard of each, and in which phase it was.
use Rattle.std.specs.Prelude.{ℕ, Bool, true, false, ◌&&◌, ◌==◌, not, if◌then◌else◌, List, [], ◌∷◌, ◌+◌, Option, Some, None, count_by}
use Rattle.std.specs.List.{list_all}
use Rattle.phase_model.specs.Phases.{waits, signals}
use Rattle.finish_core.specs.declared.event.FinishEvent.TheVariants.{Opened}
use Rattle.job_script.specs.declared.act.Answer.{Answer}
use Rattle.world_model.specs.declared.event.Step.TheVariants.{Make, Sig, Pass, Send}
use Rattle.world_model.specs.declared.event.Begun.TheVariants.{Async}
use Rattle.world_model.specs.declared.event.Tried.{Tried}
use Rattle.world_model.specs.declared.event.Tried.TheVariants.{Begun as Beginning, New, Open}
use Rattle.world_model.specs.declared.event.WorldEvent.{WorldEvent}
use Rattle.world_model.specs.declared.event.WorldEvent.TheVariants.{Phaser, Finish, Begin}
use Rattle.phase_modes.specs.declared.limits.Limits.{Limits}
use Rattle.world_model.specs.Actors.{actor}
use Rattle.trace_walk.specs.Picks.{unused}
use Rattle.world_model.specs.Due.{is_of_single}
use Rattle.world_model.specs.Parts.{phaser_past}
use Rattle.trace_walk.specs.Scripts.{Made, Numbers, act_of}
use Rattle.trace_walk.specs.Going.{heard}

-- an event of a task, what it heard of it, and the phase of a signal, of a pass and of a value
pub record Told : Type 0 where
  pub event : WorldEvent
  pub heard : Answer
  pub phase : ℕ

-- the phase that the event signals, passes or is sent for
abbrev pub phase_of : List WorldEvent → WorldEvent → ℕ
phase_of w (Phaser n (Sig t x)) = signals t (phaser_past n w)
phase_of w (Phaser n (Pass t)) = waits t (phaser_past n w)
phase_of w (Phaser n (Send t a v)) = signals t (phaser_past n w)
phase_of w _ = 0

-- the event as its task tells it
abbrev pub told_of : List WorldEvent → WorldEvent → Told
told_of w e = record { event = e; heard = heard w e; phase = phase_of w e }

-- t makes the event, and it is neither the claim of a single nor the report that it is done: who of those that
-- proposed a single runs it depends on luck, and `next`, which tells what a body does, doesn't hear of it
abbrev pub tells : ℕ → List WorldEvent → WorldEvent → Bool
tells t w e = actor w e == t && not (is_of_single e)

-- all that t does, hears and sees, the newest first
abbrev pub told : ℕ → List WorldEvent → List Told
told t [] = []
told t (e ∷ w) = if tells t w e then told_of w e ∷ told t w else told t w

-- ---- which numbers are drawn

-- the number that the act draws is the one of its kind among these; an act that draws none passes
abbrev pub draws_as : Numbers → Tried → Bool
draws_as new (New n m terms) = n == new.phaser
draws_as new (Beginning (Async c pairs)) = c == new.task
draws_as new (Open f) = f == new.finish
draws_as new _ = true

-- the act, if it is one, draws the number that the rule tells from who does it and from all that this task did, heard
-- and saw before
abbrev pub draws_next : (ℕ → List Told → Numbers) → List WorldEvent → Option Made → Bool
draws_next names w None = true
draws_next names w (Some m) = draws_as (names m.task (told m.task w)) m.act

-- so does each act of the history, made or refused
abbrev pub draws_by : (ℕ → List Told → Numbers) → List WorldEvent → Bool
draws_by names [] = true
draws_by names (e ∷ w) = draws_next names w (act_of e) && draws_by names w

-- ---- the rule by which numbers are drawn if each kind is drawn by one task alone

-- the event makes a phaser
abbrev pub makes : WorldEvent → Bool
makes (Phaser n (Make t m terms)) = true
makes _ = false

-- the event begins a spawn
abbrev pub begins_child : WorldEvent → Bool
begins_child (Begin t (Async c pairs)) = true
begins_child _ = false

-- the event opens a finish
abbrev pub opens : WorldEvent → Bool
opens (Finish f (Opened t)) = true
opens _ = false

-- each task counts what it has drawn itself: phasers from 0, tasks and finishes from 1, since the root is task 0, and
-- finish 0 is open from the start. No number is given twice, so if nobody is refused one task alone draws of a kind
abbrev pub in_order : ℕ → List Told → Numbers
in_order t xs = record {
  phaser = count_by (λ (x : Told). makes x.event) xs;
  task = count_by (λ (x : Told). begins_child x.event) xs + 1;
  finish = count_by (λ (x : Told). opens x.event) xs + 1;
}

-- ---- if the root alone draws, and always the least numbers that aren't in use

-- the act, if it is one, draws the least number of its kind that isn't in use
abbrev pub draws_least_next : Limits → List WorldEvent → Option Made → Bool
draws_least_next l w None = true
draws_least_next l w (Some m) = draws_as (unused l w) m.act

-- so does each act of the history, made or refused
abbrev pub draws_least : Limits → List WorldEvent → Bool
draws_least l [] = true
draws_least l (e ∷ w) = draws_least_next l w (act_of e) && draws_least l w

-- if the event draws a number, the root makes it
abbrev pub is_root_draw : WorldEvent → Bool
is_root_draw (Phaser n (Make t m terms)) = t == 0
is_root_draw (Begin t (Async c pairs)) = t == 0
is_root_draw (Finish f (Opened t)) = t == 0
is_root_draw _ = true

-- nobody but the root draws a number
abbrev pub root_draws : List WorldEvent → Bool
root_draws w = list_all is_root_draw w
