use Rattle.std.proofs.Common.{◌≡◌, length, vec_len}
use Rattle.live_tables.proofs.phasers.free_cells.Given as goal

abbrev pub invariant-loop-log : goal.invariant-loop-log
invariant-loop-log g l = (vec_len l.cells ≡ length l.yielded) × (l.number ≡ length l.yielded)
