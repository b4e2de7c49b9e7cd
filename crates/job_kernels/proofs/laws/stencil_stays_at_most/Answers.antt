-- The law that no cell comes to more than the greatest did at first.
use Rattle.job_kernels.proofs.Bounds.{stays_at_most}
use Rattle.job_kernels.proofs.laws.stencil_stays_at_most.Goals as goal

pub returns : goal.returns
returns c = stays_at_most
