-- What the tasks of a trace do by a body, if each hears what the trace itself tells it. The trace may be any, explained or
-- not; what is said of an explained one is said by its world's history.
--
-- A body is a function `next`: what a task does after it heard this, and what its body is after that.
use Rattle.std.specs.Prelude.{ℕ, ◌≡◌, ◌+◌, ◌==◌, Bool, true, if◌then◌else◌, List, [], ◌∷◌, Option, Some, None, Result, Ok, Err}
use Rattle.phase_modes.specs.declared.refusal.Refusal.{Refusal}
use Rattle.phase_modes.specs.declared.refusal.Refusal.TheVariants.{Memory, NotExplained}
use Rattle.job_script.specs.Steps.{Script, given, stepped}
use Rattle.job_script.specs.declared.act.Act.{Act}
use Rattle.job_script.specs.declared.act.Act.TheVariants as acts
use Rattle.job_script.specs.declared.act.Answer.{Answer}
use Rattle.job_script.specs.declared.act.Answer.TheVariants.{Started, Done, Made, Spawned, Saw}
use Rattle.world_model.specs.declared.event.Begun.TheVariants.{Async}
use Rattle.world_model.specs.Drawing.{own_pairs}
use Rattle.trace_walk.specs.Follows.{drawn, same_act}
use Rattle.trace_walk.specs.Scripts.{Made as MadeAct, act_of, is_of, parent_by}
use Rattle.trace_model.specs.Explained.{event_of, past}
use Rattle.trace_model.specs.Run.{Entry}
use Rattle.trace_model.specs.declared.event.TracedEvent.{TracedEvent}
use Rattle.trace_model.specs.declared.event.TracedEvent.TheVariants as traced
use Rattle.trace_model.specs.declared.event.TracedStep.TheVariants as steps
use Rattle.trace_walk.specs.Given.{tried_of}
use Rattle.trace_walk.specs.declared.seats.Seat.{Seat}

-- what a task does next, and what its body is after that
abbrev pub Does : Type 0 → Type 0
Does B = Act B × B

-- what a body of a program does that hears this
abbrev pub script_next : Answer → Script → Does Script
script_next x s = (given x s, stepped x s)

-- what an event of a trace tells the task of its act
abbrev pub told_by : TracedEvent → Answer
told_by (traced.Phaser n (steps.Make t mode terms)) = Made n
told_by (traced.Phaser n (steps.Look t a seen)) = Saw seen
told_by (traced.Begin t (Async c pairs)) = Spawned c
told_by _ = Done

-- ---- the seat of a task: its body, and what it hears before its next act

-- the act that is due of a task: its end if it has no seat
abbrev pub act_due : {B : Type 0} → (Answer → B → Does B) → Option (Seat B) → Act B
act_due next None = acts.End
act_due next (Some s) = (next s.heard s.body).0

-- its seat past that act, of which it hears this
abbrev pub gone_on : {B : Type 0} → (Answer → B → Does B) → Answer → Option (Seat B) → Option (Seat B)
gone_on next told None = None
gone_on next told (Some s) = Some (record { body = (next s.heard s.body).1; heard = told })

-- the seat of a child: it starts with the body that the act of its spawn hands to it
abbrev pub child_seat : {B : Type 0} → Act B → Option (Seat B) → Option (Seat B)
child_seat (acts.Async body pairs) before = Some (record { body = body; heard = Started })
child_seat (acts.AsyncAll body) before = Some (record { body = body; heard = Started })
child_seat _ before = before

-- the seat of t after an event, if this is who spawns it by the event, and these were the seats before
abbrev pub seat_after : {B : Type 0} → (Answer → B → Does B) → TracedEvent → ℕ → Option ℕ
    → (ℕ → Option (Seat B)) → Option (Seat B)
seat_after next e t (Some u) before = child_seat (act_due next (before u)) (before t)
seat_after next e t None before =
    if is_of t (act_of (event_of e)) then gone_on next (told_by e) (before t) else before t

-- the seat of t after these entries, the newest first: the root has one from the start, any other task from its spawn on
abbrev pub seat_told : {B : Type 0} → (Answer → B → Does B) → B → List Entry → ℕ → Option (Seat B)
seat_told next root [] t = if t == 0 then Some (record { body = root; heard = Started }) else None
seat_told next root (e ∷ es) t = seat_after next e.1 t (parent_by t (event_of e.1)) (seat_told next root es)

-- ---- where a trace leaves its bodies

-- the act is the one due of its task after these entries, the numbers that it drew being any
abbrev pub is_due : {B : Type 0} → (Answer → B → Does B) → B → List Entry → Option MadeAct → Bool
is_due next root es None = true
is_due next root es (Some m) =
    same_act m.act (tried_of (own_pairs m.task (past es)) (drawn m.act) (act_due next (seat_told next root es m.task)))

-- the place, counted on from k, of the first of the entries to come that is an act and not the one due of its task
abbrev pub first_astray : {B : Type 0} → (Answer → B → Does B) → B → List Entry → ℕ → List Entry → Option ℕ
first_astray next root es k [] = None
first_astray next root es k (x ∷ xs) =
    if is_due next root es (act_of (event_of x.1)) then first_astray next root (x ∷ es) (k + 1) xs else Some (k + 1)

-- want of memory aside, the answer is that place
abbrev pub AnswersPlace : Option ℕ → Result (Unit {0}) Refusal → Type 0
AnswersPlace o (Ok u) = o ≡ None
AnswersPlace o (Err Memory) = Unit {0}
AnswersPlace o (Err (NotExplained k)) = o ≡ Some k
AnswersPlace o (Err r) = ⊥
