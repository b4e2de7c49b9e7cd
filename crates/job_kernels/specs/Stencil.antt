-- The stencil: a row of cells, each of which is weighed with its neighbours in every step.
use Rattle.std.specs.Prelude.{ℕ, zero, suc, ◌+◌, ◌*◌, ◌/◌, ◌≤◌, List, length, map, slice_index}
use Rattle.std.specs.List.{range_with_len}

-- a cell and its neighbours, the cell with twice their weight; what is left over is dropped
abbrev pub weighed : ℕ → ℕ → ℕ → ℕ
weighed left own right = (left + 2 * own + right) / 4

-- the cell on the left of cell i: 0 outside the row
abbrev pub cell_before : List ℕ → ℕ → ℕ
cell_before cells zero = 0
cell_before cells (suc i) = slice_index cells i

-- cell i after a step; outside the row a cell is 0
abbrev pub cell_after : List ℕ → ℕ → ℕ
cell_after cells i = weighed (cell_before cells i) (slice_index cells i) (slice_index cells (i + 1))

-- the row after a step
abbrev pub stencil_step : List ℕ → List ℕ
stencil_step cells = map (cell_after cells) (range_with_len 0 (length cells))

-- the row after so many steps
abbrev pub stencil : ℕ → List ℕ → List ℕ
stencil zero cells = cells
stencil (suc steps) cells = stencil_step (stencil steps cells)

-- no cell is more than this
abbrev pub AtMost : ℕ → List ℕ → Type 0
AtMost most cells = (i : ℕ) → slice_index cells i ≤ most

-- a law: no cell ever becomes greater than the greatest was at first
abbrev pub StaysAtMost : Type 0
StaysAtMost = (most steps : ℕ) (cells : List ℕ) → AtMost most cells → AtMost most (stencil steps cells)
