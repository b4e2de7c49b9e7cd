-- The law that no other history has more events.
use Rattle.run_laws.proofs.NoLonger.{histories_are_no_longer}
use Rattle.run_laws.proofs.laws.histories_are_no_longer.Goals as goal

pub returns : goal.returns
returns g c = histories_are_no_longer g.B.Goes.next
