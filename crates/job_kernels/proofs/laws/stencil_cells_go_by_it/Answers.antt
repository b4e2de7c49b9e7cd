-- The law that the tasks of cells go by the stencil.
use Rattle.job_kernels.proofs.StencilRuns.{cells_go_by_stencil}
use Rattle.job_kernels.proofs.laws.stencil_cells_go_by_it.Goals as goal

pub returns : goal.returns
returns c = cells_go_by_stencil
