-- What the fields of a phaser's state stand for, beside the history.
use Rattle.std.specs.Prelude.{ℕ, ◌≡◌, ◌<◌, ◌≤◌, ◌+◌, [], ◌∷◌, Bool, true, false, length, ◌==◌, ◌&&◌, ◌⊎◌, nat_le, max, List, map, Option, Some, None}
use Rattle.std.proofs.Props.{props}
use Rattle.phase_modes.specs.declared.limits.Limits.{Limits}
use Rattle.std.specs.List.{list_any, sum_by}
use Rattle.phase_model.specs.declared.history.Event.{Event}
use Rattle.phase_model.specs.Tasks.{is_live, live_count}
use Rattle.phase_model.specs.Phases.{waits}
use Rattle.phase_model.specs.Singles.{is_proposed, number_of, has_proposed, has_claimed, is_claimed, is_done}
use Rattle.phase_model.specs.declared.terms.Terms.{Terms}
use Rattle.phase_model.specs.Rules.{Story, is_legal}
use Rattle.single_state.specs.declared.statement.Stage.{Stage}
use Rattle.single_state.specs.declared.statement.Stage.TheVariants.{Proposed, Claimed, Done}
use Rattle.single_state.specs.declared.statement.Statement.{Statement}
use Rattle.acc_cells.specs.declared.cell.Cell.{Cell}
use Rattle.acc_cells.specs.Cells.{Kept, StandsFor, held, most_values}
use Rattle.phase_model.specs.Registration.{reg_of}
use Rattle.phaser_engine.specs.Lazy.{folded, partial_of}
use Rattle.reg_table.specs.declared.table.Entry.{Entry}
use Rattle.phaser_engine.specs.Line.{Lines}
use Rattle.phaser_engine.specs.Window.{IsWindow}

-- t stands in the list
abbrev pub has : ℕ → List ℕ → Bool
has t ts = list_any (λ u. u == t) ts

-- no task stands in the list twice
abbrev pub Apart : List ℕ → Type 0
Apart [] = Unit {0}
Apart (t ∷ ts) = (has t ts ≡ false) × Apart ts

-- a live task's line of the table: its registration, and whether it proposed a single for its phase
abbrev pub entry_of : List Event → ℕ → Entry
entry_of h t = record { task = t; reg = reg_of t h; proposed = has_proposed t (waits t h) h }

-- how far the single of phase p has come
abbrev pub IsAtStage : Stage → ℕ → List Event → Type 0
IsAtStage Proposed p h = is_claimed p h ≡ false
IsAtStage (Claimed t) p h = (has_claimed t p h ≡ true) × (is_done p h ≡ false)
IsAtStage (Done t) p h = is_done p h ≡ true

-- the last proposed single: its number, how far it has come, and that no later phase has one
pub record IsLast (x : Statement) (h : List Event) : Type 0 where
  pub number : number_of x.phase h ≡ Some x.number
  pub stage : IsAtStage x.stage x.phase h
  pub later : (q : ℕ) → x.phase < q → is_proposed q h ≡ false

-- what is kept of the singles: the last one, or that there is none
abbrev pub IsLastSingle : Option Statement → List Event → Type 0
IsLastSingle None h = (p : ℕ) → is_proposed p h ≡ false
IsLastSingle (Some x) h = IsLast x h

-- the tasks of the lines
abbrev pub tasks_of : List Entry → List ℕ
tasks_of table = map (λ e. e.task) table

-- a phaser can be made, there are lines for all its registrations, and each count of values has a number
abbrev pub can_count : Limits → Bool
can_count l = nat_le 2 l.history && nat_le l.history most_values && nat_le l.regs 256

-- the history is legal, the table has one line for each live task, and the last single is kept
pub record Stands (s : Story) (table : List Entry) (single : Option Statement) : Type 0 where
  pub fit : can_count s.limits ≡ true
  pub legal : is_legal s.limits s.terms s.past ≡ true
  pub last : IsLastSingle single s.past
  pub rows : table ≡ map (entry_of s.past) (tasks_of table)
  pub who : (t : ℕ) → has t (tasks_of table) ≡ is_live t s.past
  pub apart : Apart (tasks_of table)
  pub count : length table ≡ live_count s.past

-- so a view can carry it: it has one proof at most
IsAtStage-prop : (x : Stage) (p : ℕ) (h : List Event) → IsProp (IsAtStage x p h)
IsAtStage-prop Proposed p h = hlevel props
IsAtStage-prop (Claimed t) p h = hlevel props
IsAtStage-prop (Done t) p h = hlevel props

IsLastSingle-prop : (single : Option Statement) (h : List Event) → IsProp (IsLastSingle single h)
IsLastSingle-prop None h = hlevel props
IsLastSingle-prop (Some x) h = hlevel (props, IsAtStage-prop)

Apart-prop : (ts : List ℕ) → IsProp (Apart ts)
Apart-prop [] = hlevel props
Apart-prop (t ∷ ts) = hlevel (props, Apart-prop ts)

pub Stands-prop : (s : Story) (table : List Entry) (single : Option Statement)
    → IsProp (Stands s table single)
Stands-prop s table single = hlevel (props, IsLastSingle-prop, Apart-prop)

-- a window of so many phases has all that the history has room for; or, with a bound, two more than the bound says,
-- so that whoever folds is never too far ahead of whoever may still read
abbrev pub IsWideEnough : Limits → Terms → ℕ → Type 0
IsWideEnough l terms room = (l.history ≤ room) ⊎ ((b : ℕ) × (terms.bound ≡ Some b) × (max 1 b + 2 ≤ room))

-- the window of cells is wide enough, and each cell that isn't given up stands for the values that were folded
-- for it
pub record Folds (s : Story) (partials : List (List Cell)) (kept : Kept) : Type 0 where
  pub ops : kept.ops ≡ s.terms.ops
  pub room : IsWideEnough s.limits s.terms kept.room
  pub cells : StandsFor kept (λ a p. folded a p s.past)
  pub few : kept.sums.values + sum_by (λ p. held p) partials ≤ length s.past

-- all of it
pub record IsState (s : Story) (roll : Lines) (single : Option Statement) (cells : Kept) : Type 0 where
  pub stands : Stands s roll.lines single
  pub folds : Folds s roll.partials cells
  pub window : IsWindow cells.from s.past
  pub partials : roll.partials ≡ map (partial_of s.past) (tasks_of roll.lines)
