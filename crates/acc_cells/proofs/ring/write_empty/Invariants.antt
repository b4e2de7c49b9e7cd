-- So many rows are written, and none has a value that had none.
use Rattle.std.proofs.Common.{◌≡◌, ◌≤◌, ℕ, length}
use Rattle.std.specs.Prelude.{vec_capacity}
use Rattle.acc_cells.specs.Cells.{row_at}
use Rattle.acc_cells.proofs.ring.write_empty.Given as goal

abbrev pub invariant-loop : goal.invariant-loop
invariant-loop l = record {
  written : length l.reached.items ≡ l.counter;
  same : (i : ℕ) → row_at l.reached.items i ≡ row_at l.initial.reached.items i;
  few : length l.reached.items ≤ l.size;
  capacity : vec_capacity l.reached ≡ vec_capacity l.initial.reached;
}
