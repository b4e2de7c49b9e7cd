-- What an act of a task is refused by, and what a world becomes if the task notes it by its number: by the state alone.
use Rattle.std.specs.Prelude.{ℕ, Bool, true, false, ◌&&◌, ◌==◌, not, Option, Some, None, Result, Ok, Err}
use Rattle.phase_modes.specs.declared.reg.Mode.{Mode}
use Rattle.phase_modes.specs.declared.refusal.Refusal.{Refusal}
use Rattle.phase_modes.specs.Refusal.{number_of, first_refusal}
use Rattle.phase_model.specs.Replies as phaser
use Rattle.phase_model.specs.declared.call.Call.{Call}
use Rattle.phase_model.specs.declared.call.Call.TheVariants.{Make as make, Send as send, Look as look}
use Rattle.phase_model.specs.declared.call.Reply.{Reply as Returned}
use Rattle.phase_model.specs.declared.call.Reply.TheVariants.{Refused}
use Rattle.world_model.specs.declared.event.Tried.{Tried}
use Rattle.world_model.specs.declared.event.Tried.TheVariants.{Begun as Beginning, New, Open, Send as Sending, Look as Looking}
use Rattle.world_records.specs.TaskState.{TaskState}
use Rattle.world_records.specs.WorldState.{WorldState}
use Rattle.world_records.specs.Kept.{task_at, story_at}
use Rattle.world_model.specs.ActConditions.{free_unless}
use Rattle.world_records.specs.inner.Steps.{with_task, first_conditions, open_conditions}
use Rattle.world_records.specs.inner.Begins.{begin_refusal, end_begun}
use Rattle.world_records.specs.inner.Registering.{make_conditions}

-- the refusal that a phaser's reply is, if it is one
abbrev pub refusal_in : Returned → Option Refusal
refusal_in (Refused r) = Some r
refusal_in _ = None

-- what phaser n would refuse a call by
abbrev pub phaser_refusal : WorldState → ℕ → Call → Option Refusal
phaser_refusal s n c = refusal_in (phaser.returned (story_at s n).past (phaser.reply (story_at s n) c))

abbrev pub is_make : Call → Bool
is_make (make t m) = true
is_make _ = false

-- the first of two refusals
abbrev pub or_then : Option Refusal → Option Refusal → Option Refusal
or_then (Some r) o = Some r
or_then None o = o

-- what an act is refused by that gives no number, and asks this of phaser n
abbrev pub call_refusal : WorldState → ℕ → ℕ → Call → Option Refusal
call_refusal s t n c = or_then (first_refusal (first_conditions s t false true)) (phaser_refusal s n c)

-- what the making of phaser n is refused by
abbrev pub make_refusal : WorldState → ℕ → ℕ → Mode → Option Refusal
make_refusal s t n m = or_then (first_refusal (make_conditions s n t)) (phaser_refusal s n (make t m))

-- any act
abbrev pub act_refusal : WorldState → ℕ → Tried → Option Refusal
act_refusal s t (Beginning b) = begin_refusal s t b
act_refusal s t (New n m terms) = make_refusal s t n m
act_refusal s t (Open f) = first_refusal (open_conditions s f t)
act_refusal s t (Sending n a v) = call_refusal s t n (send t a v)
act_refusal s t (Looking n a) = call_refusal s t n (look t a)

-- the refusal has this number, and may be noted: a wrong moment and want of memory may not
abbrev pub is_noted : Result (Unit {0}) Refusal → ℕ → Bool
is_noted (Ok u) n = false
is_noted (Err r) n = number_of r == n && not (n == 22) && not (n == 23)

abbrev pub refuse_noted : WorldState → ℕ → Tried → ℕ → Bool
refuse_noted s t a n = is_noted (free_unless (act_refusal s t a)) n

-- the task ends, by the refusal of this number; this child is dropped from no phaser
abbrev pub given_up : ℕ → ℕ → TaskState → TaskState
given_up c n k = record (end_begun c k) { refused = Some n }

abbrev pub where_noted : Bool → WorldState → WorldState → WorldState
where_noted true old new = new
where_noted false old new = old

abbrev pub refuse_state : WorldState → ℕ → ℕ → Bool → WorldState
refuse_state s t n noted = where_noted noted s (with_task s t (given_up t n (task_at s t)))
