use Rattle.trace_walk.proofs.Walked.{all_go, refused_there}
use Rattle.trace_walk.proofs.following.goes_by.Goals as goal

pub returns-clause-goes : goal.returns-clause-goes
returns-clause-goes g c = all_go g.B.Goes.next c.args.root c.args.trace.now c.walk.result c.walk.ensures

pub returns-clause-refused : goal.returns-clause-refused
returns-clause-refused g c = refused_there g.B.Goes.next c.args.root c.args.trace.now c.walk.result c.walk.ensures
