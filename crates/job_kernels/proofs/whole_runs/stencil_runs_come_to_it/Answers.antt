-- The law that a whole run of a stencil comes to its cells.
use Rattle.job_kernels.proofs.StencilLaws.{runs_come_to_stencil}
use Rattle.job_kernels.proofs.whole_runs.stencil_runs_come_to_it.Goals as goal

pub returns : goal.returns
returns c = runs_come_to_stencil
