use Rattle.table_receipts.proofs.Notes.{either_goes_on}
use Rattle.table_receipts.proofs.front.Front.agrees.Goals as goal

pub returns-clause-agree : goal.returns-clause-agree
returns-clause-agree g c =
    rw (← c.self.view_is, ← c.other.view_is) (either_goes_on g.K.Logs.limits c.other.inside.seen.items c.self.inside.seen.items c.other.invariant.0 c.self.invariant.0 c.agrees.ensures.1)
