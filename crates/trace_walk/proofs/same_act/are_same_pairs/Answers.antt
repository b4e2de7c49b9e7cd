use Rattle.trace_walk.proofs.Alike.{pairs-differ}
use Rattle.trace_walk.proofs.same_act.are_same_pairs.Goals as goal

pub returns-then-pairs-others : goal.returns-then-pairs-others
returns-then-pairs-others c = pairs-differ c.args.pairs.now c.args.others.now c.if-pairs-others.true
