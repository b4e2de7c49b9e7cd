-- What a world answers to the end of a task and to the shut of a finish, and how it changes, by its state alone.
use Rattle.std.specs.Prelude.{ℕ, Bool, true, false, ◌&&◌, ◌||◌, ◌==◌, if◌then◌else◌, List, Option, Some, None, get_or, set, Result, Ok, Err}
use Rattle.std.specs.Option.{option_map_or}
use Rattle.phase_modes.specs.declared.refusal.Refusal.{Refusal}
use Rattle.phase_modes.specs.declared.refusal.Refusal.TheVariants.{NotNow}
use Rattle.finish_core.specs.declared.event.FinishEvent.{FinishEvent}
use Rattle.finish_core.specs.declared.event.FinishEvent.TheVariants.{Ended, Shut}
use Rattle.finish_core.specs.Finish.{FinishStory, all_ended}
use Rattle.finish_core.specs.Replies as finish
use Rattle.finish_core.specs.Replies.{reply as answer}
use Rattle.world_model.specs.declared.event.WorldEvent.{WorldEvent}
use Rattle.world_model.specs.declared.event.WorldEvent.TheVariants.{Finish}
use Rattle.world_records.specs.declared.plan.Plan.{Plan}
use Rattle.world_records.specs.declared.plan.Plan.TheVariants as plan
use Rattle.world_model.specs.declared.reply.Reply.{Reply}
use Rattle.world_model.specs.declared.reply.Reply.TheVariants.{NotYet}
use Rattle.world_records.specs.TaskState.{TaskState}
use Rattle.world_records.specs.WorldState.{WorldState}
use Rattle.world_records.specs.Kept.{task_at, finish_at}
use Rattle.world_model.specs.Continuing.{same_event}
use Rattle.world_records.specs.inner.Steps.{done_by, state_by, with_task}
use Rattle.world_records.specs.inner.Queries.{kept_next}

-- the event that comes next is this one
abbrev pub is_next : Option WorldEvent → WorldEvent → Bool
is_next o e = option_map_or (λ d. same_event d e) o false

-- what finish f says to this event, and the state after it
abbrev pub said : FinishStory → FinishEvent → Result (Unit {0}) Refusal
said y e = answer y.tasks y.past e

abbrev pub finish_called : WorldState → ℕ → FinishEvent → WorldState
finish_called s f e =
    record s { finishes = set s.finishes f (finish.after (finish_at s f) e (said (finish_at s f) e)) }

-- the end of task t
abbrev pub end_asked : WorldState → ℕ → ℕ → Bool
end_asked s f t = is_next (kept_next s t) (Finish f (Ended t))

abbrev pub end_result : WorldState → ℕ → ℕ → Result (Unit {0}) Refusal
end_result s f t = if end_asked s f t then said (finish_at s f) (Ended t) else Err NotNow

abbrev pub end_answer : WorldState → ℕ → ℕ → Result Reply Refusal
end_answer s f t = done_by (end_result s f t)

abbrev pub end_noted : TaskState → TaskState
end_noted k = record k { plan = plan.Idle; is_ended = true }

abbrev pub end_state : WorldState → ℕ → ℕ → WorldState
end_state s f t = state_by (end_result s f t) s
    (with_task (finish_called s f (Ended t)) t (end_noted (task_at s t)))

-- the shut of finish f, which its owner makes
abbrev pub owner_in : WorldState → ℕ → ℕ
owner_in s f = get_or s.owners f 0

abbrev pub shut_asked : WorldState → ℕ → Bool
shut_asked s f = is_next (kept_next s (owner_in s f)) (Finish f Shut)

abbrev pub shut_result : WorldState → ℕ → Result (Unit {0}) Refusal
shut_result s f =
    if shut_asked s f then (if all_ended (finish_at s f).past then said (finish_at s f) Shut else Err NotNow)
    else Err NotNow

-- it has to wait for the tasks in it
abbrev pub shut_answer : WorldState → ℕ → Result Reply Refusal
shut_answer s f =
    if shut_asked s f
    then (if all_ended (finish_at s f).past then done_by (said (finish_at s f) Shut) else Ok NotYet)
    else Err NotNow

-- a task that ends goes on after the shut of an own finish; else the shut is the last of its act
abbrev pub plan_after_shut : Plan → Option ℕ → Plan
plan_after_shut (plan.Ending c) (Some g) = plan.Ending c
plan_after_shut _ _ = plan.Idle

-- the innermost own finish after the shut of f
abbrev pub top_after_shut : List (Option ℕ) → ℕ → Option ℕ → Option ℕ
top_after_shut outers f None = None
top_after_shut outers f (Some g) = get_or outers f None

-- the shut of finish 0 is the root's end
abbrev pub shut_noted : List (Option ℕ) → ℕ → ℕ → TaskState → TaskState
shut_noted outers f t k = record k {
  plan = plan_after_shut k.plan k.innermost;
  innermost = top_after_shut outers f k.innermost;
  is_ended = (f == 0 && t == 0) || k.is_ended;
}

abbrev pub shut_state : WorldState → ℕ → WorldState
shut_state s f = state_by (shut_result s f) s
    (with_task (finish_called s f Shut) (owner_in s f)
    (shut_noted s.outers f (owner_in s f) (task_at s (owner_in s f))))
