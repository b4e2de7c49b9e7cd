use Rattle.std.proofs.Common.{Some, None}
use Rattle.phaser_engine.specs.Line.{signallers_at}
use Rattle.phaser_engine.proofs.Counting.{closed_from}
use Rattle.phaser_engine.proofs.roll.Roll.is_closed.Goals as goal

pub returns-in-Some : goal.returns-in-Some
returns-in-Some c =
    let r = c.self.inside in
    rw (← c.self.view_is)
    (closed_from r.table (Some c.in-Some.least)
    (c.in-Some.ensures (signallers_at r.table) c.self.invariant.0.signalled) c.args.phase)

pub returns-in-None : goal.returns-in-None
returns-in-None c =
    let r = c.self.inside in
    rw (← c.self.view_is)
    (closed_from r.table None (c.in-None.ensures (signallers_at r.table) c.self.invariant.0.signalled)
    c.args.phase)
