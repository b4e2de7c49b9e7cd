-- The law that the items come in order.
use Rattle.job_kernels.proofs.PipelineRuns.{items_in_order}
use Rattle.job_kernels.proofs.laws.pipeline_items_in_order.Goals as goal

pub returns : goal.returns
returns c = items_in_order
