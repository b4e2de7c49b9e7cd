-- The law that a whole run of a pipeline has its totals.
use Rattle.job_kernels.proofs.PipelineTotals.{runs_total_pipeline}
use Rattle.job_kernels.proofs.whole_runs.pipeline_runs_total_it.Goals as goal

pub returns : goal.returns
returns c = runs_total_pipeline
