-- How the phasers stand after the events of a runtime, and which event may come next.
use Rattle.std.specs.Prelude.{ℕ, Bool, true, false, if◌then◌else◌, List, [], ◌∷◌, Option, Some, None, unwrap_or, Result, Ok, Err, ◌==◌}
use Rattle.phase_modes.specs.declared.reg.Mode.{Mode}
use Rattle.phase_model.specs.declared.op.Op.{Op}
use Rattle.phase_model.specs.declared.history.Event.{Event}
use Rattle.phase_model.specs.declared.history.Event.TheVariants.{Make}
use Rattle.phase_model.specs.Rules.{Story, with_event, is_allowed}
use Rattle.phaser_core.specs.LongLife.{long_limits}
use Rattle.phaser_judge.specs.declared.event.Named.{Named}
use Rattle.phaser_judge.specs.declared.event.Named.TheVariants as named
use Rattle.phaser_judge.specs.declared.refused.Refused.{Refused}
use Rattle.phase_modes.specs.Lists.{is_empty}
use Rattle.phaser_judge.specs.declared.event.NamedEvent.{NamedEvent}
use Rattle.phaser_judge.specs.Numbers.{numbered, names_with, next_after}

-- how a phaser stands: its story, its tasks by the runtime's numbers and the story's, and the number that comes next
pub record Standing : Type 0 where
  pub story : Story
  pub names : List (ℕ × ℕ)
  pub next : ℕ

-- the event with the story's numbers, or why it has none
abbrev pub renamed_event : Standing → Named → Result Event Refused
renamed_event s e = numbered s.names s.next e

-- the event has its numbers, and may follow the story
abbrev pub is_allowed_of : Story → Result Event Refused → Bool
is_allowed_of s (Ok e) = is_allowed s.limits s.terms s.past e
is_allowed_of s (Err r) = false

-- the event can happen now: it names tasks that are registered, and the story with it is legal
abbrev pub can_happen : Standing → Named → Bool
can_happen s e = is_allowed_of s.story (renamed_event s e)

-- the story with the event
abbrev pub story_with : Story → Result Event Refused → Story
story_with s (Ok e) = with_event s e
story_with s (Err r) = s

-- the tasks after the event
abbrev pub names_after : Standing → Named → List (ℕ × ℕ)
names_after s e = names_with s.names s.next e

-- how the phaser stands after the event
abbrev pub moved : Standing → Named → Standing
moved s e = record {
  story = story_with s.story (renamed_event s e);
  names = names_after s e;
  next = next_after s.next e;
}

-- how a phaser stands that was just made
abbrev pub started : ℕ → Mode → List Op → Option ℕ → Standing
started t m ops b = record {
  story = record {
    limits = long_limits;
    terms = record { ops = ops; bound = Some (unwrap_or b 65536) };
    past = Make 0 m ∷ [];
  };
  names = (t, 0) ∷ [];
  next = 1;
}

-- a phaser is there as long as it has a task
abbrev pub if_there : Standing → Option Standing
if_there s = if is_empty s.names then None else Some s

-- how a phaser stands after the event, if it is there
abbrev pub stands_after : Option Standing → Named → Option Standing
stands_after None (named.Make t m ops b) = Some (started t m ops b)
stands_after None _ = None
stands_after (Some s) e = if_there (moved s e)

-- the event may come next: it makes a phaser that isn't there, or can happen at one that is
abbrev pub may_come : Option Standing → Named → Bool
may_come None (named.Make t m ops b) = true
may_come None _ = false
may_come (Some s) e = can_happen s e

-- how phaser p stands after these events, the newest first
abbrev pub standing : ℕ → List NamedEvent → Option Standing
standing p [] = None
standing p (e ∷ es) = if e.phaser == p then stands_after (standing p es) e.event else standing p es
