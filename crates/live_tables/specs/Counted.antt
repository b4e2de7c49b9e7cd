-- A finish whose tasks are counted.
use Rattle.std.specs.Prelude.{ℕ, zero, suc, ◌≡◌, ◌≤◌, Bool, true, not, nat_lt, List, [], ◌∷◌, length}
use Rattle.std.specs.List.{list_any}
use Rattle.phase_modes.specs.Lists.{is_empty}
use Rattle.phase_modes.specs.declared.refusal.Refusal.{Refusal}
use Rattle.phase_modes.specs.declared.refusal.Refusal.TheVariants.{NotNow, TasksFull}
use Rattle.finish_core.specs.declared.answer.ShutAnswer.{ShutAnswer}
use Rattle.finish_core.specs.declared.answer.ShutAnswer.TheVariants.{Done, Parked as Waits, Refused}
use Rattle.finish_core.specs.declared.event.FinishEvent.{FinishEvent}
use Rattle.finish_core.specs.declared.event.FinishEvent.TheVariants.{Opened, Spawned, Ended, Shut}
use Rattle.finish_core.specs.Finish.{shuts, spawned_tasks, has_ended, is_legal_finish}
use Rattle.finish_core.specs.Shutting.{ended_count}
use Rattle.live_tables.specs.declared.finish_event.LongFinishEvent.{LongFinishEvent}
use Rattle.live_tables.specs.declared.finish_event.LongFinishEvent.TheVariants as long

-- the event with these numbers
abbrev pub event_of : LongFinishEvent → FinishEvent
event_of (long.Opened t) = Opened t
event_of (long.Spawned t) = Spawned t
event_of (long.Ended t) = Ended t
event_of long.Shut = Shut

-- room for 2 ^ 62 tasks
abbrev pub most_tasks : ℕ
most_tasks = 4611686018427387904

-- the numbers below n, the greatest first
abbrev pub below : ℕ → List ℕ
below zero = []
below (suc n) = n ∷ below n

-- the events of the next spawn and of the next end: numbers are given out in order
abbrev pub next_spawn : List FinishEvent → FinishEvent
next_spawn h = Spawned (length (spawned_tasks h))

abbrev pub next_end : List FinishEvent → FinishEvent
next_end h = Ended (ended_count h)

-- it is opened, and shut, if these say so; tasks 0 to n - 1 were spawned, and of these 0 to m - 1 have ended
pub record IsCounted (opened closed : Bool) (n m : ℕ) (h : List FinishEvent) : Type 0 where
  pub fresh : is_empty h ≡ not opened
  pub over : list_any shuts h ≡ closed
  pub spawned : spawned_tasks h ≡ below n
  pub ended : (t : ℕ) → has_ended t h ≡ nat_lt t m
  pub many : ended_count h ≡ m
  pub within : m ≤ n
  pub few : n ≤ most_tasks
  pub legal : is_legal_finish most_tasks h ≡ true

-- once it is shut, as many tasks have ended as were spawned
abbrev pub IsEvenOnceShut : List FinishEvent → Type 0
IsEvenOnceShut h = list_any shuts h ≡ true → ended_count h ≡ length (spawned_tasks h)

-- what is said of the refusal, if a shut is refused
abbrev pub IfShutRefused : {T : Type 0} → ShutAnswer T → (Refusal → Type 0) → Type 0
IfShutRefused (Done y) P = Unit {0}
IfShutRefused Waits P = Unit {0}
IfShutRefused (Refused y r) P = P r

-- a spawn is refused so
abbrev pub IsSpawnRefused : Refusal → Type 0
IsSpawnRefused NotNow = Unit {0}
IsSpawnRefused TasksFull = Unit {0}
IsSpawnRefused _ = ⊥
