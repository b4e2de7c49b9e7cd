use Rattle.std.proofs.Common.{◌≡◌, map}
use Rattle.std.specs.List.{range_with_len}
use Rattle.job_kernels.specs.Pipeline.{pipeline_item}
use Rattle.job_kernels.proofs.pipeline.pipeline_plain.Given as goal

abbrev pub invariant-loop-before : goal.invariant-loop-before
invariant-loop-before l = l.values.items ≡ map (pipeline_item l.fn.size.stages) (range_with_len 1 l.before)
