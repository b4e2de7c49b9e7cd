-- What a call does to a phaser for threads that wait, and to what a handle holds of one.
use Rattle.std.specs.Prelude.{◌≡◌, ℕ, ℤ, pos, neg_ℤ, int_le, int_lt, Bool, true, false, ◌+◌, ◌&&◌, if◌then◌else◌, List, [], Contains, length, nat_le, OnErr, Option, None, Some, Result, Ok, Err}
use Rattle.phase_modes.specs.declared.refusal.Refusal.{Refusal}
use Rattle.phase_modes.specs.declared.refusal.Refusal.TheVariants.{NotRegistered}
use Rattle.phase_model.specs.declared.op.Look.{Look}
use Rattle.phase_model.specs.declared.op.Look.TheVariants.{Value, Nothing as Unseen}
use Rattle.phase_model.specs.declared.call.Call.{Call}
use Rattle.phase_model.specs.declared.call.Call.TheVariants.{Drop as drop_task}
use Rattle.phase_model.specs.Replies.{reply, after, done_result}
use Rattle.phaser_core.specs.declared.parked.Parked.{Parked}
use Rattle.phaser_core.specs.Parking.{is_parked}
use Rattle.long_locks.specs.declared.cell.LongCell.{LongCell}
use Rattle.long_locks.specs.declared.answer.AskAnswer as cells
use Rattle.long_locks.specs.declared.answer.AskAnswer.TheVariants.{Ended as HasEnded, Parked as IsParked}
use Rattle.long_locks.specs.declared.answer.Ended.TheVariants as ends
use Rattle.long_locks.specs.declared.answer.Freed.{Freed}
use Rattle.long_locks.specs.declared.course.Then.{Then}
use Rattle.long_locks.specs.Courses.{course}
use Rattle.long_locks.specs.Turns.{Standing, standing, to_pass, IsTurned}
use Rattle.long_locks.specs.Calls.{to_signal, to_go_on, called, answer_to, standing_after, is_turned_away}
use Rattle.phaser_c.specs.Freed.{ended_answer, AreTold}
use Rattle.phaser_c.specs.declared.answer.ExportAnswer.{ExportAnswer}
use Rattle.phaser_c.specs.declared.answer.ExportAnswer.TheVariants.{Done, NotYet, Nothing, TooGreat, Closed, Short, Refused}
use Rattle.phaser_c.specs.declared.freed.GivenFreed.{GivenFreed}
use Rattle.phaser_c.specs.declared.asking.Asking.{Asking}
use Rattle.phaser_c.specs.declared.asking.Asking.TheVariants.{Signal, Pass, Next}
use Rattle.phaser_c.specs.declared.waiting.Waiting.{Waiting}

-- the task as it waits while its call isn't over
abbrev pub waiter : ℕ → Asking → Parked Then
waiter t (Signal x) = to_signal t x
waiter t Pass = to_pass t
waiter t (Next x) = to_go_on t x

-- how things stand, if those were freed
abbrev pub stands : LongCell Then → List Freed → Standing
stands c fs = standing c.state.story c.parked.items fs

-- what a task is answered to its own call
abbrev pub asked : LongCell Then → Parked Then → cells.AskAnswer
asked c p = answer_to (is_parked p.task c.parked.items) (called c.state.story p)

-- how things stand after a task's own call, and those of all who went on by it; as before if it was turned away
abbrev pub IsAsked : Parked Then → LongCell Then → Standing → Type 0
IsAsked p c w =
    let again = is_parked p.task c.parked.items in
    IsTurned (standing_after again (called c.state.story p) c.state.story c.parked.items) w
    × (is_turned_away again (course c.state.story p.task p.call p.item) ≡ true → w ≡ stands c [])

-- how things stand after another call, and those of all who went on by it; as before if it was refused
abbrev pub IsMade : Call → LongCell Then → Standing → Type 0
IsMade call c w =
    let r = reply c.state.story call in
    IsTurned (standing (after c.state.story r) c.parked.items []) w × OnErr (done_result r) (w ≡ stands c [])

-- the same of a leave: who was parked and has left is told so
abbrev pub IsLeft : ℕ → LongCell Then → Standing → Type 0
IsLeft t c w =
    IsMade (drop_task t) c w
    × (done_result (reply c.state.story (drop_task t)) ≡ Ok tt → is_parked t c.parked.items ≡ true
    → Contains w.gone (record { task = t; ended = ends.Refused NotRegistered }))

-- by a call that one cell became the other, and those were freed of whom the room tells
abbrev pub IsGoneOn : (LongCell Then → Standing → Type 0) → LongCell Then → LongCell Then → List GivenFreed → List GivenFreed → ℕ → Type 0
IsGoneOn How c d old new count =
    (fs : List Freed) × AreTold fs old new count × How c (stands d fs) × (d.state.next ≡ c.state.next)

-- whether the room has a place for each who may be freed
abbrev pub is_wide : List GivenFreed → Bool
is_wide room = nat_le 256 (length room)

-- the same of what a handle holds; all is as before if the room is too small, or there is no phaser
abbrev pub IsGoneOnAt : (LongCell Then → Standing → Type 0) → Option Waiting → Option Waiting → List GivenFreed
    → List GivenFreed → ℕ → ℕ → Bool → Type 0
IsGoneOnAt How old new room room' count count' false = (new ≡ old) × (room' ≡ room) × (count' ≡ count)
IsGoneOnAt How None new room room' count count' true = (new ≡ None) × (room' ≡ room) × (count' ≡ count)
IsGoneOnAt How (Some w) new room room' count count' true =
    (v : Waiting) × (new ≡ Some v) × IsGoneOn How w.cell v.cell room room' count'

-- what is asked of what a handle holds; the answer says if there is too little room, or no phaser
abbrev pub told_at : {A : Type 0} → Bool → Option Waiting → (LongCell Then → A) → Result A ExportAnswer
told_at false held f = Err Short
told_at true None f = Err Closed
told_at true (Some w) f = Ok (f w.cell)

-- what is answered if a task was answered so by the cell
abbrev pub answer_of_cell : cells.AskAnswer → ExportAnswer
answer_of_cell (HasEnded e) = ended_answer e
answer_of_cell IsParked = NotYet

-- the same; or why the cell wasn't asked
abbrev pub answer_of_told : Result cells.AskAnswer ExportAnswer → ExportAnswer
answer_of_told (Ok a) = answer_of_cell a
answer_of_told (Err why) = why

-- the phase or the single's number that the answer gives; if it gives none, what was there before
abbrev pub number_told : ℕ → Result cells.AskAnswer ExportAnswer → ℕ
number_told old (Ok (HasEnded (ends.Passed p))) = p
number_told old (Ok (HasEnded (ends.Claimed n))) = n
number_told old _ = old

-- what is answered if a call was done or refused
abbrev pub answer_done : Result (Unit {0}) Refusal → ExportAnswer
answer_done (Ok u) = Done
answer_done (Err r) = Refused r

-- the same; or why the cell wasn't asked
abbrev pub answer_of_done : Result (Result (Unit {0}) Refusal) ExportAnswer → ExportAnswer
answer_of_done (Ok r) = answer_done r
answer_of_done (Err why) = why

-- the number is one of 64 bits with a sign
abbrev pub is_short : ℤ → Bool
is_short v = int_le (neg_ℤ (pos 9223372036854775808)) v && int_lt v (pos 9223372036854775808)

-- what is answered if a look returned this
abbrev pub answer_seen : Result (Look ℤ) Refusal → ExportAnswer
answer_seen (Ok (Value v)) = if is_short v then Done else TooGreat
answer_seen (Ok Unseen) = Nothing
answer_seen (Err r) = Refused r

-- the same; or why the cell wasn't asked
abbrev pub answer_of_seen : Result (Result (Look ℤ) Refusal) ExportAnswer → ExportAnswer
answer_of_seen (Ok r) = answer_seen r
answer_of_seen (Err why) = why

-- the value that a look gives; if it gives none, what was there before
abbrev pub value_seen : ℤ → Result (Look ℤ) Refusal → ℤ
value_seen old (Ok (Value v)) = if is_short v then v else old
value_seen old _ = old

-- a call that frees nobody was made
abbrev pub IsCalled : Call → LongCell Then → LongCell Then → Type 0
IsCalled call c d =
    (d.state.story ≡ after c.state.story (reply c.state.story call)) × (d.state.next ≡ c.state.next) × (d.parked ≡ c.parked)

-- the number that is given out next, if the one before was given to a task, or refused
abbrev pub next_after : ℕ → Result (Unit {0}) Refusal → ℕ
next_after n (Ok u) = n + 1
next_after n (Err r) = n

-- what a call is answered that gives the next number to a task
abbrev pub numbering : (ℕ → Call) → LongCell Then → Result (Unit {0}) Refusal
numbering call c = done_result (reply c.state.story (call c.state.next))

-- such a call was made
abbrev pub IsNumbering : (ℕ → Call) → LongCell Then → LongCell Then → Type 0
IsNumbering call c d =
    (d.state.story ≡ after c.state.story (reply c.state.story (call c.state.next)))
    × (d.state.next ≡ next_after c.state.next (numbering call c)) × (d.parked ≡ c.parked)

-- the same of what a handle holds
abbrev pub IsHeldAfter : (LongCell Then → LongCell Then → Type 0) → Option Waiting → Option Waiting → Type 0
IsHeldAfter How None new = new ≡ None
IsHeldAfter How (Some w) new = (v : Waiting) × (new ≡ Some v) × How w.cell v.cell

-- the number that a task was given; if it was given none, what was there before
abbrev pub number_if : ℕ → ℕ → Result (Unit {0}) Refusal → ℕ
number_if old next (Ok u) = next
number_if old next (Err r) = old

-- the same of what a handle holds
abbrev pub number_given_at : ℕ → (ℕ → Call) → Option Waiting → ℕ
number_given_at old call None = old
number_given_at old call (Some w) = number_if old w.cell.state.next (numbering call w.cell)

-- the value that a look gives of what a handle holds
abbrev pub value_seen_at : ℤ → Option Waiting → (LongCell Then → Result (Look ℤ) Refusal) → ℤ
value_seen_at old None f = old
value_seen_at old (Some w) f = value_seen old (f w.cell)

-- what is answered if a task was given this number, or refused
abbrev pub answer_given : Result ℕ Refusal → ExportAnswer
answer_given (Ok t) = Done
answer_given (Err r) = Refused r

-- the number; if there is none, what was there before
abbrev pub task_given : ℕ → Result ℕ Refusal → ℕ
task_given old (Ok t) = t
task_given old (Err r) = old
