-- What a live world keeps: the tasks and the finishes that are alive, in slots that are used again.
use Rattle.std.specs.Prelude.{ℕ, ◌==◌, Bool, true, false, ◌&&◌, not, List, [], map, get_or, slice_index_or, Option, None}
use Rattle.phase_modes.specs.declared.limits.Limits.{Limits}
use Rattle.task_standing.specs.declared.plan.Plan.{Plan}
use Rattle.task_standing.specs.declared.plan.Plan.TheVariants as plan
use Rattle.task_standing.specs.Known.{Known}
use Rattle.live_world.specs.declared.at.TaskAt.{TaskAt}
use Rattle.live_world.specs.declared.at.FinishAt.{FinishAt}
use Rattle.live_world.specs.declared.course.Course.{Course}
use Rattle.live_world.specs.declared.course.Course.TheVariants as course

-- the limits of a long life: a number of 62 bits of each, and 256 tasks at once at a phaser
abbrev pub live_limits : Limits
live_limits = record {
  acts = 4611686018427387904;
  finishes = 4611686018427387904;
  history = 4611686018427387904;
  phasers = 4611686018427387904;
  regs = 256;
  tasks = 4611686018427387904;
}

-- the slot of a task: the task's number, which no other task had or gets; whether a task is there, and whether it is
-- parked; what it is about; its own open finishes, the innermost first; where it was spawned; how many acts it has begun
pub record TaskLine : Type 0 where
  pub number : ℕ
  pub taken : Bool
  pub parked : Bool
  pub course : Course
  pub finishes : List FinishAt
  pub home : FinishAt
  pub acts : ℕ

-- the slot of a finish: the finish's number, which no other had or gets; whether one is there; how many of its tasks go
-- on; and the slot of its owner, while that is parked until they have ended
pub record FinishLine : Type 0 where
  pub number : ℕ
  pub taken : Bool
  pub alive : ℕ
  pub waiter : Option ℕ

-- all slots, and the numbers that come next
pub record LiveState : Type 0 where
  pub tasks : List TaskLine
  pub finishes : List FinishLine
  pub next_task : ℕ
  pub next_finish : ℕ

-- slots that nobody ever took
abbrev pub blank_task : TaskLine
blank_task = record {
  number = 0;
  taken = false;
  parked = false;
  course = course.Idle;
  finishes = [];
  home = record { slot = 0; number = 0 };
  acts = 0;
}

abbrev pub blank_finish : FinishLine
blank_finish = record { number = 0; taken = false; alive = 0; waiter = None }

-- what is in a slot
abbrev pub task_at : LiveState → ℕ → TaskLine
task_at s i = get_or s.tasks i blank_task

abbrev pub finish_at : LiveState → ℕ → FinishLine
finish_at s i = get_or s.finishes i blank_finish

-- the task of this name is there
abbrev pub is_there : LiveState → TaskAt → Bool
is_there s t = (task_at s t.slot).taken && (task_at s t.slot).number == t.number

-- it may begin an act
abbrev pub is_idle_course : Course → Bool
is_idle_course course.Idle = true
is_idle_course _ = false

abbrev pub is_free : TaskLine → Bool
is_free k = is_idle_course k.course && not k.parked

-- its innermost finish: its own, and if it has none, the one in which it was spawned
abbrev pub inner_at : TaskLine → FinishAt
inner_at k = slice_index_or k.finishes 0 k.home

-- what it is about, as a plan of `task_standing`; a spawn is made by one call, so it is none
abbrev pub plan_of : Course → Plan
plan_of course.Idle = plan.Idle
plan_of course.Shutting = plan.Shutting
plan_of course.Ending = plan.Ending

-- what the task knows of itself, by numbers
abbrev pub known_of : TaskLine → Known
known_of k = record {
  number = k.number;
  plan = plan_of k.course;
  holding = [];
  finishes = map (λ f. f.number) k.finishes;
  home = k.home.number;
  acts = k.acts;
}
