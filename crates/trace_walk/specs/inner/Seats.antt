-- What the seats of a trace's tasks stand for, as its events are gone through.
use Rattle.std.specs.Prelude.{ℕ, ◌≡◌, ◌≢◌, Bool, true, false, List, Option, Some, None}
use Rattle.std.specs.Ordering.{nat_cmp}
use Rattle.std.specs.BTreeMap.{BTreeMap, get}
use Rattle.job_script.specs.declared.act.Act.{Act}
use Rattle.job_script.specs.declared.act.Act.TheVariants as acts
use Rattle.job_script.specs.declared.act.Answer.{Answer}
use Rattle.job_script.specs.declared.act.Answer.TheVariants.{Started}
use Rattle.world_model.specs.declared.event.Begun.TheVariants.{Async}
use Rattle.trace_walk.specs.Scripts.{act_of, parent_by}
use Rattle.trace_model.specs.Explained.{event_of}
use Rattle.trace_model.specs.Run.{Entry}
use Rattle.trace_model.specs.declared.event.TracedEvent.{TracedEvent}
use Rattle.trace_model.specs.declared.event.TracedEvent.TheVariants.{Begin}
use Rattle.trace_walk.specs.Walking.{Does, child_seat, seat_after, seat_told, is_due}
use Rattle.trace_walk.specs.declared.seats.Seat.{Seat}

-- the seat of a task, if it has one
abbrev pub seat_of : {B : Type 0} → BTreeMap ℕ (Seat B) → ℕ → Option (Seat B)
seat_of m t = get nat_cmp m t

-- each task's seat is the one that these entries tell, the newest first
abbrev pub AreTold : {B : Type 0} → (Answer → B → Does B) → B → List Entry → (ℕ → Option (Seat B)) → Type 0
AreTold next root es at = (t : ℕ) → at t ≡ seat_told next root es t

-- the task has a seat with this body, and the others are as they were
pub record IsSeated {B : Type 0} (t : ℕ) (body : B) (at after : ℕ → Option (Seat B)) : Type 0 where
  pub own : after t ≡ Some (record { body = body; heard = Started })
  pub others : (u : ℕ) → u ≢ t → after u ≡ at u

-- the child that an event names
abbrev pub child_named : TracedEvent → Option ℕ
child_named (Begin t (Async c pairs)) = Some c
child_named _ = None

-- the body that an act hands to a child
abbrev pub body_handed : {B : Type 0} → Act B → Option B
body_handed (acts.Async body pairs) = Some body
body_handed (acts.AsyncAll body) = Some body
body_handed _ = None

-- a task's seat after an act, if this is who spawns the task by it
abbrev pub seat_given : {B : Type 0} → Option ℕ → Act B → Option (Seat B) → Option (Seat B)
seat_given None act before = before
seat_given (Some u) act before = child_seat act before

-- whether the event is no act or the one due of its task; each seat is as it tells then
abbrev pub IsTaken : {B : Type 0} → (Answer → B → Does B) → B → List Entry → TracedEvent
    → (ℕ → Option (Seat B)) → Bool → Type 0
IsTaken next root es e at true =
    (is_due next root es (act_of (event_of e)) ≡ true)
    × ((t : ℕ) → at t ≡ seat_after next e t (parent_by t (event_of e)) (seat_told next root es))
IsTaken next root es e at false = is_due next root es (act_of (event_of e)) ≡ false
