-- The law that the stages add up to a triangle.
use Rattle.job_kernels.proofs.Sums.{adds_triangle}
use Rattle.job_kernels.proofs.laws.pipeline_adds_triangle.Goals as goal

pub returns : goal.returns
returns c = adds_triangle
