use Rattle.std.proofs.Common.{◌≡◌, take}
use Rattle.job_kernels.proofs.stencil.copied.Given as goal

abbrev pub invariant-loop-cell : goal.invariant-loop-cell
invariant-loop-cell l = l.row.items ≡ take l.cell-index l.cells
