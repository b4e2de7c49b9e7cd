-- The law that the source goes by the pipeline.
use Rattle.job_kernels.proofs.PipelineRuns.{source_goes_by_pipeline}
use Rattle.job_kernels.proofs.laws.pipeline_source_goes_by_it.Goals as goal

pub returns : goal.returns
returns c = source_goes_by_pipeline
