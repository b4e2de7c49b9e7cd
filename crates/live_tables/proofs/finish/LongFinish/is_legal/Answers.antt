use Rattle.std.proofs.Common.{map}
use Rattle.live_tables.specs.Counted.{event_of}
use Rattle.live_tables.proofs.Counts.{even_once_shut}
use Rattle.live_tables.proofs.finish.LongFinish.is_legal.Goals as goal

pub returns-clause-even : goal.returns-clause-even
returns-clause-even c =
    let f = c.self.inside in
    rw (← c.self.view_is) (even_once_shut f.opened f.closed f.spawned f.ended (map event_of f.log.items) c.self.invariant)
