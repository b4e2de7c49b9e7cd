-- The window of cells: which phases may still be read, and which may be given up.
use Rattle.std.specs.Prelude.{ℕ, ◌≡◌, ◌+◌, ◌<◌, Bool, true, ◌&&◌, nat_le, List}
use Rattle.std.specs.List.{list_any}
use Rattle.phase_modes.specs.Lists.{is_empty}
use Rattle.phase_modes.specs.Mode.{can_wait}
use Rattle.phase_model.specs.declared.history.Event.{Event}
use Rattle.phase_model.specs.Tasks.{is_live, has_mode, live_tasks}
use Rattle.phase_model.specs.Phases.{waits}

-- t can wait and hasn't passed the phase after p, so that it may still look at what was sent for p
abbrev pub may_read : ℕ → List Event → ℕ → Bool
may_read p h t = has_mode can_wait t h && nat_le (waits t h) (p + 1)

-- a live task may still look at what was sent for p
abbrev pub is_needed : ℕ → List Event → Bool
is_needed p h = list_any (may_read p h) (live_tasks h)

-- the cells of the phases below from may be given up: no live task may look at them
pub record IsWindow (from : ℕ) (h : List Event) : Type 0 where
  pub begun : is_empty h ≡ true → from ≡ 0
  pub read : (t p : ℕ) → is_live t h ≡ true → has_mode can_wait t h ≡ true → p < from → p + 1 < waits t h
