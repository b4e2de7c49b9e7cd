-- What a call does to a task that stands level with others, and to what a handle holds of one.
use Rattle.std.specs.Prelude.{◌≡◌, ◌≢◌, ◌⊎◌, ℕ, ℤ, ◌&&◌, List, [], ◌∷◌, Bool, true, false, nat_lt, Option, None, Some, Result, Ok, Err, MatchResult}
use Rattle.std.specs.Option.{option_and_then}
use Rattle.phase_modes.specs.declared.refusal.Refusal.{Refusal}
use Rattle.phase_modes.specs.declared.refusal.Refusal.TheVariants.{NotNow, HistoryFull, Memory}
use Rattle.phase_model.specs.declared.op.Look.{Look}
use Rattle.phase_model.specs.declared.call.Call.TheVariants.{Send as send, Look as look}
use Rattle.phase_model.specs.declared.history.Event.TheVariants.{Send as Sent}
use Rattle.phase_model.specs.declared.call.Call.{Call}
use Rattle.phase_model.specs.declared.history.Event.{Event}
use Rattle.phase_model.specs.Tasks.{is_live}
use Rattle.phase_model.specs.Rules.{Story}
use Rattle.phase_model.specs.Replies.{Reply, reply, done_result}
use Rattle.phase_model.specs.Answers.{look_result}
use Rattle.level_phaser.specs.declared.phaser.LevelPhaser.{LevelPhaser}
use Rattle.level_phaser.specs.declared.member.Member.{Member}
use Rattle.level_phaser.specs.declared.round.GivenSend.{GivenSend}
use Rattle.level_phaser.specs.declared.stage.Stage.{Stage}
use Rattle.level_phaser.specs.declared.stage.Stage.TheVariants.{Stands, Waits, Gone, Stuck, Closed as WasClosed}
use Rattle.level_phaser.specs.declared.view.SeatView.{SeatView}
use Rattle.level_phaser.specs.declared.view.Role.TheVariants.{Came, Stands as StandsIn}
use Rattle.level_phaser.specs.LevelPhasers.{IsReady, IsFull}
use Rattle.level_phaser.specs.Deeds.{deeds, kept_in}
use Rattle.level_phaser.specs.Views.{seated, view_of, first_view, with_role, with_pending, pending_in}
use Rattle.level_phaser.specs.Seen.{GoneOn, IsClosed, HasKept as KeptSo, HasToldKept, HasSent as SentInto, HasLeft as LeftBy, HasNoRoom, IsReplied}
use Rattle.phaser_c.specs.Waiting.{answer_done, answer_seen, value_seen}
use Rattle.phaser_c.specs.declared.answer.ExportAnswer.{ExportAnswer}
use Rattle.phaser_c.specs.declared.answer.ExportAnswer.TheVariants.{Done, NotYet, Nothing, Closed, Open, Refused}
use Rattle.phaser_c.specs.declared.level_task.LevelTask.{LevelTask}

-- a task, as its thread has it
abbrev pub LevelMember : Type 0
LevelMember = Member LevelPhaser

-- what its seat knows
abbrev pub view : LevelMember → SeatView LevelPhaser
view m = m.seat.me.0

-- the history of what the tasks share
abbrev pub events : LevelPhaser → List Event
events d = d.phaser.story.past

-- the task is registered
abbrev pub registered : ℕ → LevelPhaser → Bool
registered t d = is_live t d.phaser.story.past

-- the history is legal, and all tasks stand level in this phase
abbrev pub ready : ℕ → LevelPhaser → Type 0
ready p d = IsReady p d.tasks.items d.phaser.story

-- the history has no room for a round
abbrev pub full : LevelPhaser → Type 0
full d = IsFull d.phaser.story

-- what the phaser replies
abbrev pub replies : LevelPhaser → Call → Reply
replies d call = reply d.phaser.story call

-- the task's number, and which tasks are beside it, stay
abbrev pub IsSame : LevelMember → LevelMember → Type 0
IsSame m n = (n.task ≡ m.task) × (n.seat.table_id ≡ m.seat.table_id)

-- nothing has changed for the task
abbrev pub IsKept : LevelMember → LevelMember → Type 0
IsKept m n = IsSame m n × (n.stage ≡ m.stage) × (n.phase ≡ m.phase) × (view n ≡ view m) × (n.kept ≡ m.kept)

-- the task stands
abbrev pub stands : Stage → Bool
stands Stands = true
stands Waits = false
stands Gone = false
stands Stuck = false
stands WasClosed = false

-- the task waits
abbrev pub waits : Stage → Bool
waits Stands = false
waits Waits = true
waits Gone = false
waits Stuck = false
waits WasClosed = false

-- there is a phase after this one
abbrev pub is_not_last : ℕ → Bool
is_not_last phase = nat_lt phase 18446744073709551615

-- the task may come or leave
abbrev pub may_come : LevelMember → Bool
may_come m = stands m.stage && is_not_last m.phase

-- the task may look whether its phase is over
abbrev pub may_look : LevelMember → Bool
may_look m = waits m.stage && is_not_last m.phase

-- a call by a task that may make it; to one that may not the answer is NOT_NOW, and it is as before
abbrev pub IfMay : Bool → (LevelMember → LevelMember → ExportAnswer → Type 0) → LevelMember → LevelMember → ExportAnswer
    → Type 0
IfMay true How m n a = IsSame m n × How m n a
IfMay false How m n a = (a ≡ Refused NotNow) × (n ≡ m)

-- the task stands in the phase after this one of its seat, and has seen a history in which all tasks stood level in it
abbrev pub HasGoneOn : SeatView LevelPhaser → LevelMember → Type 0
HasGoneOn v n = (n.stage ≡ Stands) × GoneOn events registered ready v (view n)

-- what its seat knows once its row shows the value that it keeps
abbrev pub shown : LevelMember → SeatView LevelPhaser
shown m = with_pending (view m) (kept_in m.task m.kept)

-- how a task comes: it was the last, has gone on and keeps no value; or it waits; or it was the last, and there is no room
-- for the round
abbrev pub CameSo : LevelMember → LevelMember → ExportAnswer → Type 0
CameSo m n a =
    ((a ≡ Done) × (n.kept ≡ None) × HasGoneOn (shown m) n)
    ⊎ ((n.kept ≡ m.kept)
    × (((a ≡ NotYet) × (n.stage ≡ Waits) × (view n ≡ with_role (shown m) Came))
    ⊎ ((a ≡ Refused HistoryFull) × (n.stage ≡ Stuck) × HasNoRoom events full (view m))))

-- the same; or it may not come
abbrev pub HasCome : LevelMember → LevelMember → ExportAnswer → Type 0
HasCome m n a = IfMay (may_come m) CameSo m n a

-- how a task looks: it has gone on and keeps no value; or it waits, as before; or the table was closed, and it hasn't
-- signalled
abbrev pub LookedSo : LevelMember → LevelMember → ExportAnswer → Type 0
LookedSo m n a =
    ((a ≡ Done) × (n.kept ≡ None) × HasGoneOn (view m) n)
    ⊎ ((n.kept ≡ m.kept) × (view n ≡ view m)
    × (((a ≡ NotYet) × (n.stage ≡ Waits))
    ⊎ ((a ≡ Closed) × (n.stage ≡ WasClosed) × IsClosed events registered ready (view m))))

-- the same; or it may not look
abbrev pub HasLooked : LevelMember → LevelMember → ExportAnswer → Type 0
HasLooked m n a = IfMay (may_look m) LookedSo m n a

-- the task isn't registered any more
abbrev pub IsGone : LevelMember → LevelMember → Type 0
IsGone m n = LeftBy events registered ready m.task (view m) (view n)

-- it is as before, or the value that it kept has been sent
abbrev pub IsKeptOrTold : LevelMember → LevelMember → Type 0
IsKeptOrTold m n =
    ((view n ≡ view m) × (n.kept ≡ m.kept))
    ⊎ HasToldKept events registered ready m.task m.kept n.kept (view m) (view n)

-- how a task leaves: it has left, and kept no value; or it stands, and is asked again; or it has left, all others had come,
-- and there is no room for their round
abbrev pub LeftSo : LevelMember → LevelMember → ExportAnswer → Type 0
LeftSo m n a =
    ((a ≡ Done) × (m.kept ≡ None) × (n.stage ≡ Gone) × IsGone m n)
    ⊎ (((a ≡ NotYet) × (n.stage ≡ Stands) × IsKeptOrTold m n)
    ⊎ ((a ≡ Refused HistoryFull) × (m.kept ≡ None) × (n.stage ≡ Stuck) × IsGone m n × HasNoRoom events full (view m)))

-- the same; or it may not leave
abbrev pub HasLeft : LevelMember → LevelMember → ExportAnswer → Type 0
HasLeft m n a = IfMay (may_come m) LeftSo m n a

-- what a send does: the task keeps the value until it comes; or it is the newest event of what the task has seen; or the
-- phaser refuses it, and all is as before
abbrev pub SentSo : ℕ → ℤ → LevelMember → LevelMember → Result (Unit {0}) Refusal → Type 0
SentSo accumulator value m n r =
    MatchResult r
    (λ _. KeptSo m.task accumulator value m.kept n.kept (view m) (view n)
    ⊎ ((n.kept ≡ m.kept) × SentInto events registered ready (Sent m.task accumulator value) (view m) (view n)))
    (λ why. (view n ≡ view m) × (n.kept ≡ m.kept)
    × IsReplied events replies (λ reply. done_result reply ≡ Err why) (send m.task accumulator value) (view m))

-- how a task sends a value: if it can't keep it and others have the phaser, all is as before
abbrev pub AskedToSend : ℕ → ℤ → LevelMember → LevelMember → ExportAnswer → Type 0
AskedToSend accumulator value m n a =
    (n.stage ≡ Stands) × (n.phase ≡ m.phase)
    × (((a ≡ NotYet) × (view n ≡ view m) × (n.kept ≡ m.kept))
    ⊎ ((r : Result (Unit {0}) Refusal) × (a ≡ answer_done r) × SentSo accumulator value m n r))

-- the same; or it doesn't stand
abbrev pub HasSent : ℕ → ℤ → LevelMember → LevelMember → ExportAnswer → Type 0
HasSent accumulator value m n a = IfMay (stands m.stage) (AskedToSend accumulator value) m n a

-- what a look of the task saw: what the phaser replied, with a history that goes on from what the task had seen
abbrev pub SeenSo : ℕ → LevelMember → Result (Look ℤ) Refusal → Type 0
SeenSo accumulator m r =
    IsReplied events replies (λ reply. r ≡ look_result reply) (look m.task accumulator) (view m)

-- how a task looks at an accumulator: if it doesn't stand, that is answered; if others have the phaser, it is asked again;
-- else the phaser answers, and the value is written that it gives. All else is as before
abbrev pub HasSeen : Bool → ℕ → ℤ → ℤ → LevelMember → LevelMember → ExportAnswer → Type 0
HasSeen false accumulator old new m n a = (a ≡ Refused NotNow) × (n ≡ m) × (new ≡ old)
HasSeen true accumulator old new m n a =
    IsKept m n
    × (((a ≡ NotYet) × (new ≡ old))
    ⊎ ((r : Result (Look ℤ) Refusal) × (a ≡ answer_seen r) × (new ≡ value_seen old r) × SeenSo accumulator m r))

-- what a handle holds of a task; none if there is none
abbrev pub member_of : Option LevelTask → Option LevelMember
member_of held = option_and_then (λ t. t.member) held

-- a call of the task that a handle holds; without one the answer is CLOSED
abbrev pub IsCalledBy : (LevelMember → LevelMember → ExportAnswer → Type 0) → Option LevelMember → Option LevelMember
    → ExportAnswer → Type 0
IsCalledBy How None new a = (a ≡ Closed) × (new ≡ None)
IsCalledBy How (Some m) new a = (n : LevelMember) × (new ≡ Some n) × How m n a

-- the same of a look, and what is written
abbrev pub IsSeenBy : ℕ → Option LevelMember → Option LevelMember → ℤ → ℤ → ExportAnswer → Type 0
IsSeenBy accumulator None new v w a = (a ≡ Closed) × (new ≡ None) × (w ≡ v)
IsSeenBy accumulator (Some m) new v w a =
    (n : LevelMember) × (new ≡ Some n) × HasSeen (stands m.stage) accumulator v w m n a

-- the value that was kept, and its accumulator; if none was, what was there before
abbrev pub GivesKept : Option GivenSend → ℕ → ℕ → ℤ → ℤ → ExportAnswer → Type 0
GivesKept None accumulator accumulator' v w a = (a ≡ Nothing) × (accumulator' ≡ accumulator) × (w ≡ v)
GivesKept (Some g) accumulator accumulator' v w a = (a ≡ Done) × (accumulator' ≡ g.accumulator) × (w ≡ g.value)

-- how a task gives the value that it keeps, which it keeps no more: if it waits, that is answered. All else is as before
abbrev pub HasGiven : Bool → ℕ → ℕ → ℤ → ℤ → LevelMember → LevelMember → ExportAnswer → Type 0
HasGiven true accumulator accumulator' v w m n a =
    (a ≡ Refused NotNow) × (n ≡ m) × (accumulator' ≡ accumulator) × (w ≡ v)
HasGiven false accumulator accumulator' v w m n a =
    IsSame m n × (n.stage ≡ m.stage) × (n.phase ≡ m.phase) × (view n ≡ view m) × (n.kept ≡ None)
    × GivesKept m.kept accumulator accumulator' v w a

-- the same of what a handle holds
abbrev pub IsGivenBy : Option LevelMember → Option LevelMember → ℕ → ℕ → ℤ → ℤ → ExportAnswer → Type 0
IsGivenBy None new accumulator accumulator' v w a =
    (a ≡ Closed) × (new ≡ None) × (accumulator' ≡ accumulator) × (w ≡ v)
IsGivenBy (Some m) new accumulator accumulator' v w a =
    (n : LevelMember) × (new ≡ Some n) × HasGiven (waits m.stage) accumulator accumulator' v w m n a

-- the first task of a phaser
abbrev pub IsFirst : LevelMember → Type 0
IsFirst m = (view m ≡ first_view m.task m.width) × (m.stage ≡ Stands) × (m.kept ≡ None)

-- the operators and the bound are some
abbrev pub IsGiven : Result Story ExportAnswer → Type 0
IsGiven (Ok s) = Unit {0}
IsGiven (Err why) = ⊥

-- how a phaser's first task is made for a handle: one that holds a task keeps it; if what was given is bad, the answer says
-- why, and the handle holds none; else it holds the task, unless memory is refused
abbrev pub IsFirstFor : Option LevelMember → Option LevelMember → Result Story ExportAnswer → ExportAnswer → Type 0
IsFirstFor (Some m) new given a = (a ≡ Open) × (new ≡ Some m)
IsFirstFor None new (Err why) a = (a ≡ why) × (new ≡ None)
IsFirstFor None new (Ok s) a =
    ((m : LevelMember) × (a ≡ Done) × (new ≡ Some m) × IsFirst m) ⊎ ((a ≡ Refused Memory) × (new ≡ None))

-- the task c joined by m: it stands where m does, has signalled what others have, and has sent nothing
abbrev pub IsChild : LevelMember → LevelMember → Type 0
IsChild m c =
    let v = view m in
    (view c ≡ view_of (seated c.task (deeds m.phase []) (pending_in (view c).tasks) ∷ []) m.phase StandsIn v.seen v.heard
    v.width)
    × (c.kept ≡ None) × (c.task ≢ m.task) × (c.stage ≡ Stands) × (c.seat.table_id ≡ m.seat.table_id)

-- how a task joins by m, for which nothing changes: if that doesn't stand, that is answered; if others have the phaser, or
-- there is no room, or memory is refused, there is no new task
abbrev pub HasJoined : Bool → LevelMember → LevelMember → Option LevelMember → ExportAnswer → Type 0
HasJoined false m n other a = (a ≡ Refused NotNow) × (n ≡ m) × (other ≡ None)
HasJoined true m n other a =
    IsKept m n
    × (((c : LevelMember) × (a ≡ Done) × (other ≡ Some c) × IsChild m c)
    ⊎ (((a ≡ NotYet) ⊎ (a ≡ Refused Memory)) × (other ≡ None)))

-- the same for a handle that holds this: one that holds a task keeps it
abbrev pub HasJoinedFor : LevelMember → LevelMember → Option LevelMember → Option LevelMember → ExportAnswer → Type 0
HasJoinedFor m n (Some c) other a = (a ≡ Open) × (n ≡ m) × (other ≡ Some c)
HasJoinedFor m n None other a = HasJoined (stands m.stage) m n other a

-- how a task joins by what a handle holds, for another handle
abbrev pub IsJoinedFor : Option LevelMember → Option LevelMember → Option LevelMember → Option LevelMember → ExportAnswer
    → Type 0
IsJoinedFor None new other other' a = (a ≡ Closed) × (new ≡ None) × (other' ≡ other)
IsJoinedFor (Some m) new other other' a = (n : LevelMember) × (new ≡ Some n) × HasJoinedFor m n other other' a
