use Rattle.trace_walk.proofs.Alike.{ops-differ}
use Rattle.trace_walk.proofs.same_act.are_same_ops.Goals as goal

pub returns-then-ops-others : goal.returns-then-ops-others
returns-then-ops-others c = ops-differ c.args.ops.now c.args.others.now c.if-ops-others.true
