use Rattle.std.proofs.Common.{length}
use Rattle.chunked_stencil.proofs.border.wake.Given as goal

abbrev pub decreases-loop-bell : goal.decreases-loop-bell
decreases-loop-bell l = length l.out
