-- The first cells are joined, and the others stand.
use Rattle.std.proofs.Common.{◌≡◌, ◌<◌, ◌≤◌, ℕ}
use Rattle.acc_cells.specs.Cells.{cell_in, cell_joined}
use Rattle.acc_cells.proofs.ring.Row.join.Given as goal

abbrev pub invariant-loop-accumulator : goal.invariant-loop-accumulator
invariant-loop-accumulator l = record {
  phase : l.self.phase ≡ l.fn.self.phase;
  done : (a : ℕ) → a < l.accumulator
      → cell_in l.self.cells a ≡ cell_joined (cell_in l.cells a) (cell_in l.fn.self.cells a);
  rest : (a : ℕ) → l.accumulator ≤ a → cell_in l.self.cells a ≡ cell_in l.fn.self.cells a;
}
