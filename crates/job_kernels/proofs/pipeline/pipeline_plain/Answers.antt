use Rattle.std.proofs.Common.{◌+◌, arith}
use Rattle.std.proofs.lemmas.List.FromFn.{map-range_with_len_more}
use Rattle.job_kernels.specs.Pipeline.{pipeline_item}
use Rattle.job_kernels.proofs.pipeline.pipeline_plain.Goals as goal

pub loop-before-preserved : goal.loop-before-preserved
loop-before-preserved c =
    let more = map-range_with_len_more (pipeline_item c.args.size.stages) 1 c.loop-before.before (c.loop-before.before + 1) (omega arith) in
    rw more (grind (arith, c.loop-before.invariant, c.item.ensures, c.push.ensures.items))
