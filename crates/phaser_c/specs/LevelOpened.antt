-- How a phaser goes over to tasks that stand level, and comes back.
use Rattle.std.specs.Prelude.{◌≡◌, ◌⊎◌, ℕ, ◌+◌, ◌==◌, ◌&&◌, Bool, true, false, nat_le, List, [], ◌∷◌, length, Option, None, Some, is_some, slice_get}
use Rattle.phase_modes.specs.declared.refusal.Refusal.TheVariants.{NotNow, Memory}
use Rattle.told_history.specs.Tails.{IsTail}
use Rattle.phase_model.specs.Tasks.{live_count}
use Rattle.long_locks.specs.declared.cell.LongCell.{LongCell}
use Rattle.long_locks.specs.declared.course.Then.{Then}
use Rattle.level_phaser.specs.declared.phaser.LevelPhaser.{LevelPhaser}
use Rattle.level_phaser.specs.declared.keeper.Door.TheVariants.{Open as IsOpen}
use Rattle.level_phaser.specs.declared.stage.Stage.TheVariants.{Stands}
use Rattle.level_phaser.specs.declared.view.SeatView.{SeatView}
use Rattle.level_phaser.specs.declared.view.Role.TheVariants.{Gone, Stands as StandsIn}
use Rattle.level_phaser.specs.RoundLaws.{StandLevel}
use Rattle.level_phaser.specs.Keeping.{are_apart}
use Rattle.level_phaser.specs.LevelPhasers.{IsReady}
use Rattle.level_phaser.specs.Views.{seats_in, view_of}
use Rattle.phaser_c.specs.Rounds.{level_of}
use Rattle.phaser_c.specs.LevelCalls.{LevelMember, view}
use Rattle.phaser_c.specs.declared.answer.ExportAnswer.{ExportAnswer}
use Rattle.phaser_c.specs.declared.answer.ExportAnswer.TheVariants.{Done, NotYet, Closed, Open, Refused}
use Rattle.phaser_c.specs.declared.level_keeper.LevelKeeper.{LevelKeeper}
use Rattle.phaser_c.specs.declared.waiting.Waiting.{Waiting}

-- what a keeper's seat knows
abbrev pub known : LevelKeeper → SeatView LevelPhaser
known k = k.keeper.seat.me.0

-- these are 256 tasks at most, all that are registered, none of them twice, and they stand level while nobody is parked
abbrev pub may_open : List ℕ → LongCell Then → Bool
may_open ts c =
    nat_le (length ts) 256 && live_count c.state.story.past == length ts && is_some (level_of ts c) && are_apart ts

-- the table is open for these tasks, which stand level in the history that the phaser had; nobody has taken one yet
abbrev pub IsOpenTo : List ℕ → LongCell Then → LevelKeeper → Type 0
IsOpenTo ts c k =
    (k.keeper.door ≡ IsOpen) × (k.keeper.numbers.items ≡ ts) × (k.keeper.taken ≡ 0)
    × StandLevel k.keeper.phase ts c.state.story
    × (known k ≡ view_of [] k.keeper.phase Gone c.state.story.past 0 k.keeper.width)

-- how a phaser goes over to these tasks: it does, or memory is refused, or it may not; then nothing has changed
abbrev pub HasOpened : List ℕ → Waiting → Option LevelKeeper → Option Waiting → ExportAnswer → Type 0
HasOpened ts w level held a =
    ((k : LevelKeeper) × (a ≡ Done) × (may_open ts w.cell ≡ true) × (level ≡ Some k) × (held ≡ None) × IsOpenTo ts w.cell k)
    ⊎ ((level ≡ None) × (held ≡ Some w)
    × (((a ≡ Refused NotNow) × (may_open ts w.cell ≡ false)) ⊎ (a ≡ Refused Memory)))

-- the same by handles: of a keeper that holds one, and of a phaser that holds none
abbrev pub IsOpenedFor : List ℕ → Option LevelKeeper → Option LevelKeeper → Option Waiting → Option Waiting → ExportAnswer
    → Type 0
IsOpenedFor ts (Some k) level held held' a = (a ≡ Open) × (level ≡ Some k) × (held' ≡ held)
IsOpenedFor ts None level None held' a = (a ≡ Closed) × (level ≡ None) × (held' ≡ None)
IsOpenedFor ts None level (Some w) held' a = HasOpened ts w level held' a

-- nothing has changed for a keeper
abbrev pub IsKeptBy : LevelKeeper → LevelKeeper → Type 0
IsKeptBy k l =
    (l.keeper.door ≡ k.keeper.door) × (l.keeper.numbers ≡ k.keeper.numbers) × (l.keeper.phase ≡ k.keeper.phase)
    × (l.keeper.width ≡ k.keeper.width) × (known l ≡ known k)

-- the task stands in the phase of the keeper, and has seen the history that the phaser had; it is beside the others
abbrev pub IsOf : LevelKeeper → LevelMember → Type 0
IsOf k m =
    let seen = (known k).seen in
    (view m ≡ view_of (seats_in seen (m.task ∷ [])) k.keeper.phase StandsIn seen 0 k.keeper.width) × (m.kept ≡ None)
    × (m.stage ≡ Stands) × (m.seat.table_id ≡ k.keeper.seat.table_id)

-- how the next task of a keeper is taken: it is, or there is none, or memory is refused
abbrev pub HasTaken : LevelKeeper → LevelKeeper → Option LevelMember → ExportAnswer → Type 0
HasTaken k l task a =
    IsKeptBy k l
    × (((m : LevelMember) × (a ≡ Done) × (task ≡ Some m) × (l.keeper.taken ≡ k.keeper.taken + 1)
    × (slice_get k.keeper.numbers.items k.keeper.taken ≡ Some m.task) × IsOf k m)
    ⊎ (((a ≡ Refused NotNow) ⊎ (a ≡ Refused Memory)) × (task ≡ None) × (l.keeper.taken ≡ k.keeper.taken)))

-- the same for a handle that holds this: one that holds a task keeps it
abbrev pub HasTakenFor : LevelKeeper → LevelKeeper → Option LevelMember → Option LevelMember → ExportAnswer → Type 0
HasTakenFor k l (Some m) task a = (a ≡ Open) × (l ≡ k) × (task ≡ Some m)
HasTakenFor k l None task a = HasTaken k l task a

-- the same by what a handle holds of a keeper
abbrev pub IsTakenFor : Option LevelKeeper → Option LevelKeeper → Option LevelMember → Option LevelMember → ExportAnswer
    → Type 0
IsTakenFor None level task task' a = (a ≡ Closed) × (level ≡ None) × (task' ≡ task)
IsTakenFor (Some k) level task task' a = (l : LevelKeeper) × (level ≡ Some l) × HasTakenFor k l task task' a

-- the phaser is back: all tasks stand level in it, in a history that goes on from the one with which it went over, and
-- nobody is parked
abbrev pub IsBack : LevelKeeper → Waiting → Type 0
IsBack k w =
    (w.cell.parked.items ≡ []) × IsTail (known k).seen w.cell.state.story.past
    × (p : ℕ) × (ts : List ℕ) × IsReady p ts w.cell.state.story

-- how a table is closed: it is, or it is as before
abbrev pub HasClosed : LevelKeeper → Option LevelKeeper → Option Waiting → ExportAnswer → Type 0
HasClosed k level held a =
    ((w : Waiting) × (a ≡ Done) × (level ≡ None) × (held ≡ Some w) × IsBack k w)
    ⊎ ((l : LevelKeeper) × (a ≡ NotYet) × (level ≡ Some l) × (held ≡ None) × IsKeptBy k l
    × (l.keeper.taken ≡ k.keeper.taken))

-- the same by handles: of a phaser that holds one, and of a keeper that holds none
abbrev pub IsClosedFor : Option LevelKeeper → Option LevelKeeper → Option Waiting → Option Waiting → ExportAnswer → Type 0
IsClosedFor level level' (Some w) held a = (a ≡ Open) × (level' ≡ level) × (held ≡ Some w)
IsClosedFor None level None held a = (a ≡ Closed) × (level ≡ None) × (held ≡ None)
IsClosedFor (Some k) level None held a = HasClosed k level held a
