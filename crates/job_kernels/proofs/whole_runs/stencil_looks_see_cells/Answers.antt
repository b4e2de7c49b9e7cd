-- The law that each look of a stencil's task sees its cell.
use Rattle.job_kernels.proofs.StencilLaws.{looks_see_cells}
use Rattle.job_kernels.proofs.whole_runs.stencil_looks_see_cells.Goals as goal

pub returns : goal.returns
returns c = looks_see_cells
