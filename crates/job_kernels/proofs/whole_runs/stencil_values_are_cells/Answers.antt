-- The law that the tasks of a stencil send its cells.
use Rattle.job_kernels.proofs.StencilLaws.{values_are_cells}
use Rattle.job_kernels.proofs.whole_runs.stencil_values_are_cells.Goals as goal

pub returns : goal.returns
returns c = values_are_cells
