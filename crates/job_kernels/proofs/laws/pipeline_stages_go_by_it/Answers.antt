-- The law that the stages go by the pipeline.
use Rattle.job_kernels.proofs.PipelineRuns.{stages_go_by_pipeline}
use Rattle.job_kernels.proofs.laws.pipeline_stages_go_by_it.Goals as goal

pub returns : goal.returns
returns c = stages_go_by_pipeline
