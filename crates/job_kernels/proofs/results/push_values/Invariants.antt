use Rattle.std.proofs.Common.{◌≡◌, ◌++◌, take, flat_map}
use Rattle.job_kernels.specs.Results.{value_seen}
use Rattle.job_kernels.proofs.results.push_values.Given as goal

abbrev pub invariant-loop-fold : goal.invariant-loop-fold
invariant-loop-fold l = l.values.items ≡ l.initial.values.items ++ flat_map (λ f. value_seen f.value) (take l.fold-index l.fold-items)
