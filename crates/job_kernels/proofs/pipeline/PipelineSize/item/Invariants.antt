-- Each stage so far added its number, which is at most 15.
use Rattle.std.proofs.Common.{◌≡◌, ◌≤◌, ◌+◌, ◌*◌}
use Rattle.job_kernels.specs.Pipeline.{pipeline_item}
use Rattle.job_kernels.proofs.pipeline.PipelineSize.item.Given as goal

abbrev pub invariant-loop-stage : goal.invariant-loop-stage
invariant-loop-stage l = record {
  so_far : l.value ≡ pipeline_item l.stage l.fn.item;
  small : l.value ≤ l.fn.item + 15 * l.stage;
}
