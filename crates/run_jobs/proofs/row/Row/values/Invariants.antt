use Rattle.std.proofs.Common.{◌≡◌, vec_len}
use Rattle.run_jobs.proofs.row.Row.values.Given as goal

abbrev pub invariant-loop-value : goal.invariant-loop-value
invariant-loop-value l = vec_len l.values ≡ l.value-index
