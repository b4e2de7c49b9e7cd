-- A line of the roll, and what the roll keeps of all lines.
use Rattle.std.specs.Prelude.{ℕ, max, Option, Some, None, ◌≡◌, ◌+◌, ◌^◌, ◌<◌, ◌≤◌, Bool, ◌&&◌, ◌||◌, ◌==◌, not, true, false, nat_lt, if◌then◌else◌, List, length, slice_index_or}
use Rattle.std.specs.List.{sum_by, list_all}
use Rattle.phase_modes.specs.declared.reg.Reg.{Reg}
use Rattle.phase_modes.specs.Mode.{can_signal, can_wait}
use Rattle.phase_modes.specs.Reg.{signals_of}
use Rattle.acc_cells.specs.declared.cell.Cell.{Cell}
use Rattle.acc_cells.specs.Cells.{no_partial}
use Rattle.reg_table.specs.declared.table.Entry.{Entry}
use Rattle.phaser_engine.specs.declared.rear.Rear.{Rear}
use Rattle.phaser_engine.specs.Rears.{IsRear}

-- the registration can't signal, or has signalled the phase
abbrev pub has_signalled : ℕ → Reg ℕ → Bool
has_signalled p r = not (can_signal r.mode) || nat_lt p (signals_of r)

-- the registration can't wait, or has passed the phase
abbrev pub has_passed : ℕ → Reg ℕ → Bool
has_passed p r = not (can_wait r.mode) || nat_lt p r.phase

-- the registration can't wait, or is fewer than b phases behind the phase
abbrev pub is_near : ℕ → ℕ → Reg ℕ → Bool
is_near b p r = not (can_wait r.mode) || nat_lt p (r.phase + b)

-- each line is as near to the phase as the bound says, which is at least 1
abbrev pub is_within : Option ℕ → ℕ → List Entry → Bool
is_within None p lines = true
is_within (Some b) p lines = list_all (λ e. is_near (max 1 b) p e.reg) lines

-- a waiter that has passed the phase
abbrev pub is_waiter_past : ℕ → Reg ℕ → Bool
is_waiter_past p r = can_wait r.mode && nat_lt p r.phase

-- 1 for a signaller that has signalled n phases
abbrev pub stands_at : ℕ → Reg ℕ → ℕ
stands_at n r = if can_signal r.mode && signals_of r == n then 1 else 0

-- 1 for a waiter that has passed n phases
abbrev pub waits_at : ℕ → Reg ℕ → ℕ
waits_at n r = if can_wait r.mode && r.phase == n then 1 else 0

-- a signaller that hasn't signalled this phase, which is its own
pub record IsToSignal (phase : ℕ) (r : Reg ℕ) : Type 0 where
  pub signaller : can_signal r.mode ≡ true
  pub behind : r.ahead ≡ false
  pub phase_is : r.phase ≡ phase

-- how many signallers of the lines have signalled n phases
abbrev pub signallers_at : List Entry → ℕ → ℕ
signallers_at lines n = sum_by (λ e. stands_at n e.reg) lines

-- how many waiters of the lines have passed n phases
abbrev pub waiters_at : List Entry → ℕ → ℕ
waiters_at lines n = sum_by (λ e. waits_at n e.reg) lines

-- the registration may pass, a phase after which two more have a number: if it can signal, it has
pub record IsToPass (r : Reg ℕ) : Type 0 where
  pub ahead : can_signal r.mode ≡ true → r.ahead ≡ true
  pub low : r.phase + 2 < 2 ^ 64

-- the lines of a roll, and what each line's task has sent and not yet signalled
pub record Lines : Type 0 where
  pub lines : List Entry
  pub partials : List (List Cell)

-- it is kept where the signallers stand that have signalled least, and the waiters that have passed least
pub record IsRoll (lines : List Entry) (signallers waiters : Rear) : Type 0 where
  pub few : length lines ≤ 256
  pub signalled : IsRear (signallers_at lines) signallers
  pub passed : IsRear (waiters_at lines) waiters

-- the first so many partials are those of the lines, the others are empty, and there is room for as many as
-- there can be lines
pub record ArePartials (used : ℕ) (all : List (List Cell)) (capacity : ℕ) : Type 0 where
  pub within : used ≤ length all
  pub room : 256 ≤ capacity
  pub spare : (k : ℕ) → used ≤ k → slice_index_or all k no_partial ≡ no_partial
