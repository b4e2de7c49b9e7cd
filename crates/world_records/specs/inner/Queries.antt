-- What a world reports of a task, by its state alone. That this is what the history says is proved apart, in proofs/.
use Rattle.std.specs.Prelude.{ℕ, Bool, false, ◌&&◌, not, if◌then◌else◌, Option, Some, None, option_map, slice_get}
use Rattle.phase_modes.specs.declared.phased.Pair.{Pair}
use Rattle.phase_model.specs.Waiting.{signal_would_wait, would_wait}
use Rattle.finish_core.specs.Finish.{all_ended}
use Rattle.finish_core.specs.declared.event.FinishEvent.TheVariants.{Spawned, Shut as Shutting}
use Rattle.world_model.specs.declared.event.Step.TheVariants.{Reg, Sig, Claim, Did, Pass, Drop}
use Rattle.world_model.specs.declared.event.WorldEvent.{WorldEvent}
use Rattle.world_model.specs.declared.event.WorldEvent.TheVariants.{Phaser, Finish}
use Rattle.world_records.specs.declared.plan.Plan.{Plan}
use Rattle.world_records.specs.declared.plan.Plan.TheVariants as plan
use Rattle.world_model.specs.declared.condition.Condition.{Condition}
use Rattle.world_model.specs.declared.condition.Condition.TheVariants as condition
use Rattle.world_records.specs.TaskState.{TaskState}
use Rattle.world_records.specs.WorldState.{WorldState}
use Rattle.world_records.specs.Kept.{task_at, story_at, finish_at, inner_at}
use Rattle.world_records.specs.inner.Steps.{may_claim, may_report}
use Rattle.world_records.specs.StandsFor.{end_of}

-- what comes if a pass is due: the single may come first
abbrev pub turn_event : WorldState → ℕ → ℕ → WorldEvent
turn_event s t n =
    if may_claim (story_at s n) t then Phaser n (Claim t)
    else (if may_report (story_at s n) t then Phaser n (Did t)
    else Phaser n (Pass t))

-- the event of a phaser that is left, or else this one
abbrev pub drop_or : ℕ → Option ℕ → WorldEvent → WorldEvent
drop_or t (Some n) e = Phaser n (Drop t)
drop_or t None e = e

abbrev pub reg_or : ℕ → ℕ → Option Pair → WorldEvent → WorldEvent
reg_or t c (Some p) e = Phaser p.phaser (Reg t c p.mode)
reg_or t c None e = e

abbrev pub shut_or : Option ℕ → WorldEvent → WorldEvent
shut_or (Some f) e = Finish f Shutting
shut_or None e = e

-- the event that continues the act of a task with this line and this plan
abbrev pub next_by : WorldState → ℕ → TaskState → Plan → Option WorldEvent
next_by s t k plan.Idle = None
next_by s t k (plan.Signalling x turn) = option_map (λ n. Phaser n (Sig t x)) (slice_get k.left 0)
next_by s t k plan.Turning = option_map (turn_event s t) (slice_get k.left 0)
next_by s t k (plan.Spawning c pairs made) =
    Some (reg_or t c (slice_get pairs made) (Finish (inner_at k) (Spawned c)))
next_by s t k plan.Shutting = Some (drop_or t (slice_get k.left 0) (Finish (inner_at k) Shutting))
next_by s t k (plan.Ending c) = Some (drop_or c (slice_get k.left 0)
    (drop_or t (slice_get k.phasers 0) (shut_or k.innermost (end_of t k))))

abbrev pub kept_next : WorldState → ℕ → Option WorldEvent
kept_next s t = next_by s t (task_at s t) (task_at s t).plan

-- what the task is about
abbrev pub condition_by : Plan → Condition
condition_by plan.Idle = condition.Idle
condition_by (plan.Signalling x turn) = condition.Signalling
condition_by plan.Turning = condition.Turning
condition_by (plan.Spawning c pairs made) = condition.Spawning
condition_by plan.Shutting = condition.Shutting
condition_by (plan.Ending c) = condition.Ending

abbrev pub kept_condition : TaskState → Option Condition
kept_condition k =
    if k.is_ended then Some condition.Ended
    else (if k.is_born then Some (condition_by k.plan)
    else None)

-- what comes next has to wait: a pass of a phase that is open, or whose single is, a signal that isn't within its phaser's bound, and a shut of a finish with a task inside that hasn't ended
abbrev pub waits_at : WorldState → Option WorldEvent → Bool
waits_at s (Some (Phaser n (Pass t))) = would_wait (story_at s n) t
waits_at s (Some (Phaser n (Sig t x))) = signal_would_wait (story_at s n) t x
waits_at s (Some (Finish f Shutting)) = not (all_ended (finish_at s f).past)
waits_at s _ = false

-- the task goes on, and what it does next doesn't have to wait
abbrev pub able_at : WorldState → ℕ → Bool
able_at s t = (task_at s t).is_born && not (task_at s t).is_ended && not (waits_at s (kept_next s t))
