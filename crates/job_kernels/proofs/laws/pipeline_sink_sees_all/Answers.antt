-- The law that the sink sees all.
use Rattle.job_kernels.proofs.PipelineRuns.{sink_sees_all}
use Rattle.job_kernels.proofs.laws.pipeline_sink_sees_all.Goals as goal

pub returns : goal.returns
returns c = sink_sees_all
