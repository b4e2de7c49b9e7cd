use Rattle.std.proofs.Common.{◌≡◌, length}
use Rattle.std.specs.VecDeque.{deque_len}
use Rattle.table_receipts.proofs.logs.PhaserLogs.of.Given as goal

abbrev pub invariant-loop-log : goal.invariant-loop-log
invariant-loop-log g l = (deque_len l.all ≡ length l.yielded) × (l.number ≡ length l.yielded)
