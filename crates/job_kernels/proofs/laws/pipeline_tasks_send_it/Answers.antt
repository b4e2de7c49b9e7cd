-- The law that the tasks send the pipeline.
use Rattle.job_kernels.proofs.PipelineSendings.{tasks_send_pipeline}
use Rattle.job_kernels.proofs.laws.pipeline_tasks_send_it.Goals as goal

pub returns : goal.returns
returns c = tasks_send_pipeline
