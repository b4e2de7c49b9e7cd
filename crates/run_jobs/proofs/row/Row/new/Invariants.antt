use Rattle.std.proofs.Common.{◌≡◌, vec_len}
use Rattle.run_jobs.proofs.row.Row.new.Given as goal

abbrev pub invariant-loop-place : goal.invariant-loop-place
invariant-loop-place l = vec_len l.values ≡ l._place
