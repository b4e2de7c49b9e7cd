use Rattle.example_crew.proofs.Sums.{looked}
use Rattle.example_crew.proofs.barrier.look.Goals as goal

pub returns : goal.returns
returns g c = record { seen = looked g.J.Naming.terms.ops c.args.task c.look.new.me c.look.result c.look.ensures.seen }
