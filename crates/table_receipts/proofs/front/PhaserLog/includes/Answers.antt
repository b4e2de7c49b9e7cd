use Rattle.table_receipts.proofs.Notes.{goes_on}
use Rattle.table_receipts.proofs.front.PhaserLog.includes.Goals as goal

pub returns-clause-begins : goal.returns-clause-begins
returns-clause-begins g c =
    let tail = rw c.again.ensures.1 at c.includes.ensures.1 in
    rw (← c.self.view_is, ← c.seen.view_is) (goes_on g.K.Logs.limits c.seen.inside.seen.items c.self.inside.whole.items c.self.invariant.0 tail)
