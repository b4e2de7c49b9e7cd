use Rattle.long_locks.proofs.Tails.{either_mapped}
use Rattle.told_history.specs.Wide.{event_of}
use Rattle.long_locks.proofs.front.Front.agrees.Goals as goal

pub returns-clause-agree : goal.returns-clause-agree
returns-clause-agree g c =
    rw (← c.self.view_is, ← c.other.view_is) (either_mapped event_of c.other.inside.seen.items c.self.inside.seen.items c.agrees.ensures.1)
