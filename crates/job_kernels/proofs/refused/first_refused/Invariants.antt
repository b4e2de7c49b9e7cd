-- None of the lines so far tells of a refusal.
use Rattle.std.proofs.Common.{◌≡◌, drop, is_some}
use Rattle.std.specs.List.{find}
use Rattle.job_kernels.proofs.refused.first_refused.Given as goal

abbrev pub invariant-loop-line : goal.invariant-loop-line
invariant-loop-line l = find (λ x. is_some x.refused) l.lines ≡ find (λ x. is_some x.refused) (drop l.line-index l.lines)
