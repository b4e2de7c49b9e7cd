use Rattle.std.proofs.Common.{◌≡◌, map}
use Rattle.std.specs.List.{range_with_len}
use Rattle.job_kernels.specs.Stencil.{cell_after}
use Rattle.job_kernels.proofs.stencil.stencil_step.Given as goal

abbrev pub invariant-loop-place : goal.invariant-loop-place
invariant-loop-place l = l.after.items ≡ map (cell_after l.cells) (range_with_len 0 l.place)
