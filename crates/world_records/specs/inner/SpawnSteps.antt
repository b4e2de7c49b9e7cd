-- What a world answers to the spawn of a child, and how it changes: by its state alone.
use Rattle.std.specs.Prelude.{ℕ, Bool, true, false, ◌&&◌, ◌==◌, not, nat_lt, if◌then◌else◌, [], length, set, Result, Err}
use Rattle.phase_modes.specs.declared.refusal.Refusal.{Refusal}
use Rattle.phase_modes.specs.declared.refusal.Refusal.TheVariants.{NotNow}
use Rattle.finish_core.specs.declared.event.FinishEvent.TheVariants.{Spawned}
use Rattle.finish_core.specs.Replies as finish
use Rattle.finish_core.specs.Replies.{reply as answer}
use Rattle.world_records.specs.declared.plan.Plan.{Plan}
use Rattle.world_records.specs.declared.plan.Plan.TheVariants as plan
use Rattle.world_model.specs.declared.reply.Reply.{Reply}
use Rattle.world_records.specs.TaskState.{TaskState}
use Rattle.world_records.specs.WorldState.{WorldState}
use Rattle.world_records.specs.Kept.{task_at, finish_at, inner_at}
use Rattle.world_records.specs.inner.Steps.{done_by, state_by, with_task}

-- the plan's next event is to spawn c in finish f, if this is the innermost one
abbrev pub wants_spawn : Plan → ℕ → ℕ → ℕ → Bool
wants_spawn (plan.Spawning d pairs made) inner f c =
    not (nat_lt made (length pairs)) && (inner == f && d == c)
wants_spawn _ inner f c = false

abbrev pub is_to_spawn : TaskState → ℕ → ℕ → Bool
is_to_spawn k f c = wants_spawn k.plan (inner_at k) f c

abbrev pub spawner_at : WorldState → ℕ → ℕ
spawner_at s c = (task_at s c).spawner

abbrev pub spawn_wanted : WorldState → ℕ → ℕ → Bool
spawn_wanted s f c = is_to_spawn (task_at s (spawner_at s c)) f c && nat_lt c (length s.tasks)

abbrev pub spawn_result : WorldState → ℕ → ℕ → Result (Unit {0}) Refusal
spawn_result s f c =
    if spawn_wanted s f c then answer (finish_at s f).tasks (finish_at s f).past (Spawned c)
    else Err NotNow

abbrev pub spawn_answer : WorldState → ℕ → ℕ → Result Reply Refusal
spawn_answer s f c = done_by (spawn_result s f c)

-- the line of a child that is spawned in finish f, by a task with this clock
abbrev pub born_in : ℕ → ℕ → TaskState → TaskState
born_in f clock k = record k { is_born = true; home = f; clock = clock }

-- the line of a task that has spawned its child
abbrev pub spawn_noted : TaskState → TaskState
spawn_noted k = record k { plan = plan.Idle; left = [] }

-- the state after finish f was asked to spawn c
abbrev pub finish_spawned : WorldState → ℕ → ℕ → WorldState
finish_spawned s f c = record s {
  finishes = set s.finishes f (finish.after (finish_at s f) (Spawned c)
      (answer (finish_at s f).tasks (finish_at s f).past (Spawned c)));
}

-- and after the child's line was changed
abbrev pub child_born : WorldState → ℕ → ℕ → WorldState
child_born s f c =
    with_task (finish_spawned s f c) c (born_in f (task_at s (spawner_at s c)).clock (task_at s c))

abbrev pub spawn_state : WorldState → ℕ → ℕ → WorldState
spawn_state s f c = state_by (spawn_result s f c) s
    (with_task (child_born s f c) (spawner_at s c)
    (spawn_noted (task_at (child_born s f c) (spawner_at s c))))
