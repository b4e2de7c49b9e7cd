-- The law that memory is all that luck decides.
use Rattle.run_laws.proofs.Memory.{memory_is_all_luck}
use Rattle.run_laws.proofs.laws.memory_is_all_luck.Goals as goal

pub returns : goal.returns
returns g c = memory_is_all_luck g.B.Goes.next
