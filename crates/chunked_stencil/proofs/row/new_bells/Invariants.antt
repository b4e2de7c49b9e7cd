use Rattle.std.proofs.Common.{◌≡◌, vec_len}
use Rattle.chunked_stencil.proofs.row.new_bells.Given as goal

abbrev pub invariant-loop-thread : goal.invariant-loop-thread
invariant-loop-thread l = vec_len l.bells ≡ l._thread
