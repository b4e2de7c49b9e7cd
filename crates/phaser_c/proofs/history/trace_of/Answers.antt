use Rattle.std.proofs.Common.{rules}
use Rattle.phaser_c.proofs.Parts.{added_more}
use Rattle.phaser_c.proofs.history.trace_of.Goals as goal

-- src/history.rt
pub loop-place-preserved : goal.loop-place-preserved
loop-place-preserved c =
    added_more c.args.limits c.args.part.now c.loop-place.place c.loop-place.trace c.add_to.new.trace
    (search rules) c.loop-place.invariant c.in_ok-add_to.ensures.added
