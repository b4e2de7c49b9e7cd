-- The law that the root spawns the tasks of the cells.
use Rattle.job_kernels.proofs.StencilPlan.{root_spawns_cells}
use Rattle.job_kernels.proofs.laws.stencil_root_spawns_cells.Goals as goal

pub returns : goal.returns
returns c = root_spawns_cells
