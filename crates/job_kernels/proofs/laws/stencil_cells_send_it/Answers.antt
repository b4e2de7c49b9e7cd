-- The law that the tasks of cells send the stencil.
use Rattle.job_kernels.proofs.StencilSendings.{cells_send_stencil}
use Rattle.job_kernels.proofs.laws.stencil_cells_send_it.Goals as goal

pub returns : goal.returns
returns c = cells_send_stencil
