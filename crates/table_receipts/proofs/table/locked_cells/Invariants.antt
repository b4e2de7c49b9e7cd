use Rattle.std.proofs.Common.{◌≡◌, ◌+◌, length, vec_len}
use Rattle.std.specs.VecDeque.{deque_len}
use Rattle.table_receipts.proofs.table.locked_cells.Given as goal

abbrev pub invariant-loop-book : goal.invariant-loop-book
invariant-loop-book g l = (vec_len l.cells ≡ length l.yielded) × (deque_len l.logs + length l.yielded ≡ deque_len l.initial.logs)
