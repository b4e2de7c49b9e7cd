-- The law that the least numbers are those in order.
use Rattle.run_laws.proofs.Least.{least_is_in_order}
use Rattle.run_laws.proofs.laws.least_is_in_order.Goals as goal

pub returns : goal.returns
returns g c = least_is_in_order g.B.Goes.next
