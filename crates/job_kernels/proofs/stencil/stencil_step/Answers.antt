use Rattle.std.proofs.Common.{arith}
use Rattle.std.proofs.lemmas.List.FromFn.{map-range_with_len_more}
use Rattle.job_kernels.specs.Stencil.{cell_after}
use Rattle.job_kernels.proofs.stencil.stencil_step.Goals as goal

pub loop-place-preserved : goal.loop-place-preserved
loop-place-preserved c =
    let more = map-range_with_len_more (cell_after c.args.cells.now) 0 c.loop-place.place c.loop-place.place (omega arith) in
    rw more (grind (arith, c.loop-place.invariant, c.cell_after.ensures, c.push.ensures.items))
