use Rattle.std.proofs.Common.{◌≡◌, vec_len}
use Rattle.long_locks.proofs.entry.workers.Given as goal

abbrev pub invariant-loop-place : goal.invariant-loop-place
invariant-loop-place g l = vec_len l.workers ≡ l.place
