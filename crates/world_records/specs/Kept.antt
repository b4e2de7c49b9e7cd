-- How a world's state is read: the readings are total, a number past the tables is one that is not in use.
use Rattle.std.specs.Prelude.{ℕ, Bool, true, false, ◌&&◌, not, List, [], ◌∷◌, get_or, None, unwrap_or, replicate, set, slice_get}
use Rattle.std.specs.Option.{option_map_or}
use Rattle.phase_modes.specs.declared.limits.Limits.{Limits}
use Rattle.phase_model.specs.declared.history.Event.{Event}
use Rattle.phase_model.specs.Rules.{Story, no_terms}
use Rattle.finish_core.specs.Finish.{FinishStory, fresh}
use Rattle.finish_core.specs.declared.event.FinishEvent.TheVariants.{Opened}
use Rattle.world_records.specs.declared.plan.Plan.{Plan}
use Rattle.world_records.specs.declared.plan.Plan.TheVariants as plan
use Rattle.world_records.specs.TaskState.{TaskState}
use Rattle.world_records.specs.WorldState.{WorldState}

-- a number that no task has yet
abbrev pub blank_task : TaskState
blank_task = record {
  plan = plan.Idle;
  left = [];
  phasers = [];
  innermost = None;
  clock = 0;
  acts = 0;
  home = 0;
  spawner = 0;
  is_named = false;
  is_born = false;
  is_ended = false;
  refused = None;
}

-- task 0 before its first act
abbrev pub root_task : TaskState
root_task = record blank_task { is_named = true; is_born = true }

abbrev pub is_idle_plan : Plan → Bool
is_idle_plan plan.Idle = true
is_idle_plan _ = false

abbrev pub task_at : WorldState → ℕ → TaskState
task_at s t = get_or s.tasks t blank_task

abbrev pub blank_story : Limits → Story
blank_story l = record { limits = l; terms = no_terms; past = [] }

abbrev pub story_at : WorldState → ℕ → Story
story_at s n = get_or s.phasers n (blank_story s.limits)

-- the history of a phaser of the table; a number past it has none
abbrev pub past_in : List Story → ℕ → List Event
past_in stories n = option_map_or (λ s. s.past) (slice_get stories n) []

abbrev pub finish_at : WorldState → ℕ → FinishStory
finish_at s f = get_or s.finishes f (fresh s.limits.tasks)

-- the task's innermost finish: its own innermost open one, and if it has none, the one in which it was spawned
abbrev pub inner_at : TaskState → ℕ
inner_at k = unwrap_or k.innermost k.home

-- the task may begin an act
abbrev pub is_ready : TaskState → Bool
is_ready k = k.is_born && not k.is_ended && is_idle_plan k.plan

-- the world before the first event: task 0 runs, and finish 0 is open
abbrev pub first_state : Limits → WorldState
first_state l = record {
  limits = l;
  phasers = replicate l.phasers (blank_story l);
  enclosing = replicate l.phasers 0;
  finishes = set (replicate l.finishes (fresh l.tasks)) 0 (record { tasks = l.tasks; past = Opened 0 ∷ [] });
  owners = replicate l.finishes 0;
  outers = replicate l.finishes None;
  tasks = set (replicate l.tasks blank_task) 0 root_task;
}
