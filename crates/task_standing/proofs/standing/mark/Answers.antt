use Rattle.std.proofs.Common.{ap, ◌∙◌, set}
use Rattle.task_standing.specs.Standing.{marked}
use Rattle.task_standing.proofs.Marking.{changed_at}
use Rattle.task_standing.proofs.standing.mark.Goals as goal

pub loop-i-preserved : goal.loop-i-preserved
loop-i-preserved c =
    ap (λ h. set c.loop-i.holding c.loop-i.i h) c.marked.ensures
    ∙ changed_at (marked c.args.phaser c.args.ahead) c.loop-i.holding c.args.holding.now c.loop-i.i _
    c.loop-i-test.true c.loop-i.invariant
