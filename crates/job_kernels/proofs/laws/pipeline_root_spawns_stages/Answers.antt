-- The law that the root spawns the stages.
use Rattle.job_kernels.proofs.PipelinePlan.{root_spawns_stages}
use Rattle.job_kernels.proofs.laws.pipeline_root_spawns_stages.Goals as goal

pub returns : goal.returns
returns c = root_spawns_stages
