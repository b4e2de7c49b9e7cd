-- The law that a phaser's history that fitted always fits.
use Rattle.run_laws.proofs.Memory.{histories_always_fit}
use Rattle.run_laws.proofs.laws.histories_always_fit.Goals as goal

pub returns : goal.returns
returns g c = histories_always_fit g.B.Goes.next
