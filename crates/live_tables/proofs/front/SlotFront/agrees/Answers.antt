use Rattle.live_tables.proofs.Projects.{either_tells_on}
use Rattle.live_tables.proofs.front.SlotFront.agrees.Goals as goal

pub returns-clause-agree : goal.returns-clause-agree
returns-clause-agree c =
    rw (← c.self.view_is, ← c.other.view_is) (either_tells_on c.other.inside.seen.items c.self.inside.seen.items c.agrees.ensures.1)
