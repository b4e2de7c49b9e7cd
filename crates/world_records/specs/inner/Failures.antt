-- When a task may give up what it is about, and what a world becomes then: by the state alone.
use Rattle.std.specs.Prelude.{ℕ, Bool, false, ◌&&◌, ◌||◌, ◌==◌, if◌then◌else◌, List, Option, Some, None}
use Rattle.std.specs.Option.{option_map_or}
use Rattle.phase_modes.specs.declared.refusal.Refusal.{Refusal}
use Rattle.phase_modes.specs.Refusal.{number_of}
use Rattle.world_model.specs.declared.event.WorldEvent.{WorldEvent}
use Rattle.world_model.specs.declared.event.WorldEvent.TheVariants.{Phaser}
use Rattle.world_model.specs.PartReplies.{call_for}
use Rattle.world_model.specs.GivingUp.{is_reg}
use Rattle.world_records.specs.declared.plan.Plan.{Plan}
use Rattle.world_records.specs.declared.plan.Plan.TheVariants as plan
use Rattle.world_records.specs.TaskState.{TaskState}
use Rattle.world_records.specs.WorldState.{WorldState}
use Rattle.world_records.specs.Kept.{task_at, is_ready}
use Rattle.world_records.specs.inner.Steps.{with_task}
use Rattle.world_records.specs.inner.Queries.{kept_next}
use Rattle.world_records.specs.inner.Refusals.{phaser_refusal, is_make, given_up, where_noted}

-- what the event that comes next is refused by; what a finish says is never a reason to give up, and no phaser is made in the middle of an act
abbrev pub next_refusal : WorldState → Option WorldEvent → Option Refusal
next_refusal s (Some (Phaser n x)) = if is_make (call_for x) then None else phaser_refusal s n (call_for x)
next_refusal s _ = None

abbrev pub has_number : Option Refusal → ℕ → Bool
has_number None n = false
has_number (Some r) n = number_of r == n

-- the task may give up by the refusal of this number
abbrev pub may_fail_by : WorldState → ℕ → ℕ → Bool
may_fail_by s t n =
    ((n == 7 || n == 15) && has_number (next_refusal s (kept_next s t)) n)
    || (n == 14 && option_map_or is_reg (kept_next s t) false)
    || (n == 23 && is_ready (task_at s t))

-- the line of a task that gives up a spawn, whose child is on these phasers
abbrev pub spawn_given_up : ℕ → List ℕ → ℕ → TaskState → TaskState
spawn_given_up c ns n k = record k { plan = plan.Ending c; left = ns; refused = Some n }

-- the line of a task that gives up; a child that is half spawned is to be dropped first
abbrev pub failed_by : WorldState → ℕ → ℕ → Plan → TaskState → TaskState
failed_by s t n (plan.Spawning c pairs made) k = spawn_given_up c (task_at s c).phasers n k
failed_by s t n _ k = given_up t n k

-- the state after that of a spawn
abbrev pub spawn_failed : WorldState → ℕ → ℕ → ℕ → WorldState
spawn_failed s t c n = with_task s t (spawn_given_up c (task_at s c).phasers n (task_at s t))

abbrev pub failed : WorldState → ℕ → ℕ → WorldState
failed s t n = with_task s t (failed_by s t n (task_at s t).plan (task_at s t))

abbrev pub fail_state : WorldState → ℕ → ℕ → WorldState
fail_state s t n = where_noted (may_fail_by s t n) s (failed s t n)
