-- What a world answers and how it changes if a task begins an act, by its state alone.
use Rattle.std.specs.Prelude.{ℕ, ◌+◌, Bool, true, false, ◌<◌, ◌==◌, min, if◌then◌else◌, List, [], ◌++◌, length, filter, get_or, Option, Some, None, Result}
use Rattle.phase_modes.specs.Lists.{is_empty}
use Rattle.phase_modes.specs.declared.phased.Pair.{Pair}
use Rattle.phase_modes.specs.declared.refusal.Refusal.{Refusal}
use Rattle.phase_modes.specs.Refusal.{first_refusal}
use Rattle.world_model.specs.declared.event.Begun.{Begun}
use Rattle.world_model.specs.declared.event.Begun.TheVariants.{Async, Signal, Wait, Next, NextSingle, Shut, End}
use Rattle.world_model.specs.declared.event.Tried.TheVariants.{Begun as Beginning}
use Rattle.world_model.specs.declared.reply.Reply.{Reply}
use Rattle.world_model.specs.ActConditions.{is_counted, begin_conditions}
use Rattle.world_records.specs.declared.plan.Plan.TheVariants as plan
use Rattle.world_records.specs.TaskState.{TaskState}
use Rattle.world_records.specs.WorldState.{WorldState}
use Rattle.world_records.specs.Kept.{task_at, inner_at}
use Rattle.world_records.specs.inner.Facts.{facts}
use Rattle.world_records.specs.inner.Steps.{first_conditions, owing, passing, turn_begun, done_unless, unless_refused, with_task}

-- the number that the act wants to give is in use
abbrev pub is_child_named : WorldState → Begun → Bool
is_child_named s (Async c pairs) = (task_at s c).is_named
is_child_named s _ = false

abbrev pub begin_refusal : WorldState → ℕ → Begun → Option Refusal
begin_refusal s t b =
    first_refusal (first_conditions s t (is_child_named s b) (is_counted (Beginning b))
    ++ begin_conditions s.limits (facts s t) b)

-- one act more
abbrev pub counted : TaskState → TaskState
counted k = record k { acts = min (k.acts + 1) 4294967295 }

-- a plain signal is begun, whose signals are left
abbrev pub signals_begun : TaskState → TaskState
signals_begun k =
    if is_empty k.left then record (counted k) { plan = plan.Idle }
    else record (counted k) { plan = plan.Signalling None false }

-- those of the numbers that this finish encloses
abbrev pub enclosed : List ℕ → ℕ → List ℕ → List ℕ
enclosed enclosing f ns = filter (λ n. get_or enclosing n 0 == f) ns

-- a shut is begun: the phasers of the finish are left
abbrev pub shut_begun : List ℕ → TaskState → TaskState
shut_begun enclosing k =
    record (counted k) { plan = plan.Shutting; left = enclosed enclosing (inner_at k) k.phasers }

-- the task ends: this child is dropped from no phaser
abbrev pub end_begun : ℕ → TaskState → TaskState
end_begun c k = record k { plan = plan.Ending c; left = [] }

-- a spawn is begun, none of whose pairs is made
abbrev pub spawn_begun : ℕ → List Pair → TaskState → TaskState
spawn_begun c pairs k = record (counted k) { plan = plan.Spawning c pairs 0 }

-- the acting task's line
abbrev pub line_begun : WorldState → ℕ → Begun → TaskState
line_begun s t (Async c pairs) = spawn_begun c pairs (task_at s t)
line_begun s t Signal = signals_begun (owing s t)
line_begun s t Wait = passing (counted (task_at s t))
line_begun s t Next = turn_begun None (owing s t)
line_begun s t (NextSingle x) = turn_begun (Some x) (owing s t)
line_begun s t Shut = shut_begun s.enclosing (task_at s t)
line_begun s t End = end_begun t (task_at s t)

-- the line of a child that this task names
abbrev pub named_for : ℕ → TaskState → TaskState
named_for t k = record k { is_named = true; spawner = t }

abbrev pub child_named : WorldState → ℕ → ℕ → WorldState
child_named s t c = with_task s c (named_for t (task_at s c))

-- the state once the act is begun; a spawn names its child
abbrev pub entered : WorldState → ℕ → Begun → WorldState
entered s t (Async c pairs) = child_named (with_task s t (line_begun s t (Async c pairs))) t c
entered s t b = with_task s t (line_begun s t b)

-- the child that the act names has a line in the table
abbrev pub IsChildWithin : Begun → List TaskState → Type 0
IsChildWithin (Async c pairs) tasks = c < length tasks
IsChildWithin b tasks = Unit {0}

abbrev pub begin_answer : WorldState → ℕ → Begun → Result Reply Refusal
begin_answer s t b = done_unless (begin_refusal s t b)

abbrev pub begin_state : WorldState → ℕ → Begun → WorldState
begin_state s t b = unless_refused (begin_refusal s t b) s (entered s t b)
