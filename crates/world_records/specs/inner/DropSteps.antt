-- What a world answers to a drop of an act under way, and how it changes: by its state alone.
use Rattle.std.specs.Prelude.{ℕ, Bool, false, ◌&&◌, ◌==◌, not, if◌then◌else◌, List, [], ◌∷◌, drop, filter, Result, Err}
use Rattle.phase_modes.specs.declared.refusal.Refusal.{Refusal}
use Rattle.phase_modes.specs.declared.refusal.Refusal.TheVariants.{NotNow}
use Rattle.phase_model.specs.Replies as phaser
use Rattle.phase_model.specs.Replies.{done_result}
use Rattle.phase_model.specs.declared.call.Call.TheVariants.{Drop as drop_task}
use Rattle.world_records.specs.declared.plan.Plan.{Plan}
use Rattle.world_records.specs.declared.plan.Plan.TheVariants as plan
use Rattle.world_model.specs.declared.reply.Reply.{Reply}
use Rattle.world_records.specs.TaskState.{TaskState}
use Rattle.world_records.specs.WorldState.{WorldState}
use Rattle.world_records.specs.Kept.{task_at, story_at}
use Rattle.world_records.specs.inner.Steps.{done_by, state_by, with_task, phaser_called, is_first}

-- the next event of task a is that t leaves phaser n: t is a itself, or a child that it never spawned
abbrev pub wants_drop : Plan → List ℕ → List ℕ → ℕ → ℕ → ℕ → Bool
wants_drop plan.Shutting left own a n t = is_first left n && a == t
wants_drop (plan.Ending d) [] own a n t = is_first own n && a == t
wants_drop (plan.Ending d) (m ∷ ms) own a n t = m == n && d == t
wants_drop _ left own a n t = false

abbrev pub is_to_drop : TaskState → ℕ → ℕ → ℕ → Bool
is_to_drop k a n t = wants_drop k.plan k.left k.phasers a n t

-- who drops t: a child that was never spawned is dropped by its spawner
abbrev pub dropper_at : WorldState → ℕ → ℕ
dropper_at s t = if (task_at s t).is_born then t else (task_at s t).spawner

abbrev pub drop_result : WorldState → ℕ → ℕ → Result (Unit {0}) Refusal
drop_result s n t =
    if is_to_drop (task_at s (dropper_at s t)) (dropper_at s t) n t
    then done_result (phaser.reply (story_at s n) (drop_task t))
    else Err NotNow

abbrev pub drop_answer : WorldState → ℕ → ℕ → Result Reply Refusal
drop_answer s n t = done_by (drop_result s n t)

-- the line of a task that has left phaser n
abbrev pub gone_from : ℕ → TaskState → TaskState
gone_from n k = record k { phasers = filter (λ m. not (m == n)) k.phasers }

-- the line of a task that has made its first drop
abbrev pub drop_noted : TaskState → TaskState
drop_noted k = record k { left = drop 1 k.left }

abbrev pub task_gone : WorldState → ℕ → ℕ → WorldState
task_gone s n t = with_task (phaser_called s n (drop_task t)) t (gone_from n (task_at s t))

abbrev pub drop_state : WorldState → ℕ → ℕ → WorldState
drop_state s n t = state_by (drop_result s n t) s
    (with_task (task_gone s n t) (dropper_at s t) (drop_noted (task_at (task_gone s n t) (dropper_at s t))))
