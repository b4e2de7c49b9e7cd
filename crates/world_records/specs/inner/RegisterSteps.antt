-- What a world answers to the registration of a child, and how it changes: by its state alone.
use Rattle.std.specs.Prelude.{ℕ, ◌+◌, Bool, false, ◌&&◌, ◌==◌, nat_lt, if◌then◌else◌, [], ◌∷◌, ◌++◌, length, slice_get, Option, Some, None, Result, Err}
use Rattle.phase_modes.specs.declared.reg.Mode.{Mode}
use Rattle.phase_modes.specs.declared.phased.Pair.{Pair}
use Rattle.phase_modes.specs.declared.refusal.Refusal.{Refusal}
use Rattle.phase_modes.specs.declared.refusal.Refusal.TheVariants.{NotNow}
use Rattle.phase_model.specs.Replies as phaser
use Rattle.phase_model.specs.Replies.{done_result}
use Rattle.phase_model.specs.declared.call.Call.TheVariants.{Register as register}
use Rattle.world_model.specs.declared.reply.Reply.{Reply}
use Rattle.world_model.specs.ActConditions.{most_phasers_held}
use Rattle.world_model.specs.Continuing.{same_mode}
use Rattle.world_records.specs.declared.plan.Plan.{Plan}
use Rattle.world_records.specs.declared.plan.Plan.TheVariants as plan
use Rattle.world_records.specs.TaskState.{TaskState}
use Rattle.world_records.specs.WorldState.{WorldState}
use Rattle.world_records.specs.Kept.{task_at, story_at}
use Rattle.world_records.specs.inner.Steps.{done_by, state_by, with_task, phaser_called}

-- the pair is of phaser n and mode m
abbrev pub is_pair : Option Pair → ℕ → Mode → Bool
is_pair (Some p) n m = p.phaser == n && same_mode p.mode m
is_pair None n m = false

-- the plan's next event is to register c on phaser n in mode m
abbrev pub wants_register : Plan → ℕ → ℕ → Mode → Bool
wants_register (plan.Spawning d pairs made) n c m = is_pair (slice_get pairs made) n m && d == c
wants_register _ n c m = false

abbrev pub is_to_register : TaskState → ℕ → ℕ → Mode → Bool
is_to_register k n c m = wants_register k.plan n c m

-- the task has a line, and room for another phaser in it
abbrev pub has_place : WorldState → ℕ → Bool
has_place s c = nat_lt c (length s.tasks) && nat_lt (length (task_at s c).phasers) most_phasers_held

abbrev pub register_result : WorldState → ℕ → ℕ → ℕ → Mode → Result (Unit {0}) Refusal
register_result s n q c m =
    if is_to_register (task_at s q) n c m && has_place s c
    then done_result (phaser.reply (story_at s n) (register q c m))
    else Err NotNow

abbrev pub register_answer : WorldState → ℕ → ℕ → ℕ → Mode → Result Reply Refusal
register_answer s n q c m = done_by (register_result s n q c m)

-- the line of a child that was registered on phaser n
abbrev pub joining : ℕ → TaskState → TaskState
joining n k = record k { phasers = k.phasers ++ n ∷ [] }

-- a plan to spawn goes on to its next pair
abbrev pub to_next_pair : Plan → Plan
to_next_pair (plan.Spawning c pairs made) =
    plan.Spawning c pairs (if nat_lt made (length pairs) then made + 1 else made)
to_next_pair p = p

-- the line of a task that has registered its child
abbrev pub register_noted : TaskState → TaskState
register_noted k = record k { plan = to_next_pair k.plan }

-- the state after the phaser was asked, and the child's line was changed
abbrev pub child_joined : WorldState → ℕ → ℕ → ℕ → Mode → WorldState
child_joined s n q c m = with_task (phaser_called s n (register q c m)) c (joining n (task_at s c))

abbrev pub register_state : WorldState → ℕ → ℕ → ℕ → Mode → WorldState
register_state s n q c m = state_by (register_result s n q c m) s
    (with_task (child_joined s n q c m) q (register_noted (task_at (child_joined s n q c m) q)))
