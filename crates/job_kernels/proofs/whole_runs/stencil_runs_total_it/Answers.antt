-- The law that a whole run of a stencil has its totals.
use Rattle.job_kernels.proofs.StencilTotals.{runs_total_stencil}
use Rattle.job_kernels.proofs.whole_runs.stencil_runs_total_it.Goals as goal

pub returns : goal.returns
returns c = runs_total_stencil
