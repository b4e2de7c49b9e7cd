-- The law that histories in which the least numbers are drawn hang on memory alone.
use Rattle.run_laws.proofs.Least.{least_hangs_on_memory_alone}
use Rattle.run_laws.proofs.laws.least_hangs_on_memory_alone.Goals as goal

pub returns : goal.returns
returns g c = least_hangs_on_memory_alone g.B.Goes.next
