use Rattle.std.proofs.Common.{◌≡◌, vec_len}
use Rattle.job_kernels.specs.Stencil.{AtMost}
use Rattle.chunked_stencil.proofs.cells.first_row.Given as goal

abbrev pub invariant-loop-place : goal.invariant-loop-place
invariant-loop-place l = (vec_len l.row ≡ l.place) × AtMost 1000000 l.row.items
