use Rattle.example_crew.proofs.Sums.{farther}
use Rattle.example_crew.proofs.barrier.arrive.Goals as goal

pub returns : goal.returns
returns g c = record { more = farther c.args.worker.now.me c.send.new.worker.me c.signal.new.worker.me c.send.ensures.more c.signal.ensures.more }
