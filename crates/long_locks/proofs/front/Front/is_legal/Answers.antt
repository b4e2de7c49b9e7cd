use Rattle.std.proofs.Common.{map}
use Rattle.world_model.proofs.PhasersFolded.{legal_is_folded}
use Rattle.told_history.specs.Wide.{event_of}
use Rattle.phaser_core.specs.LongLife.{long_limits}
use Rattle.long_locks.proofs.front.Front.is_legal.Goals as goal

pub returns-clause-folded : goal.returns-clause-folded
returns-clause-folded g c =
    rw (← c.self.view_is) (legal_is_folded long_limits g.J.Naming.terms (map event_of c.self.inside.seen.items) c.self.invariant.1)
