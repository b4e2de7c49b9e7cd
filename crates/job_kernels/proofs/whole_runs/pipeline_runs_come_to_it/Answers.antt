-- The law that a whole run of a pipeline comes to its items.
use Rattle.job_kernels.proofs.PipelineWhole.{runs_come_to_pipeline}
use Rattle.job_kernels.proofs.whole_runs.pipeline_runs_come_to_it.Goals as goal

pub returns : goal.returns
returns c = runs_come_to_pipeline
