use Rattle.std.proofs.Common.{arith}
use Rattle.phaser_engine.specs.Line.{waiters_at}
use Rattle.phaser_engine.proofs.Nearness.{within_none, within_from}
use Rattle.phaser_engine.proofs.roll.Roll.is_within.Goals as goal

pub returns-in-Some : goal.returns-in-Some
returns-in-Some c =
    let r = c.self.inside in
    rw (← c.self.view_is)
    (within_from r.table c.args.bound c.args.phase c.in-Some.least c.saturating_sub.result
    c.from.result (c.in-Some.ensures (waiters_at r.table) c.self.invariant.0.passed)
    (omega (arith, c.saturating_sub.ensures))
    (omega (arith, c.from.ensures, c.phases.ensures.phases))
    (omega (arith, c.from.ensures, c.phases.ensures.least)))

pub returns-in-None : goal.returns-in-None
returns-in-None c =
    let r = c.self.inside in
    rw (← c.self.view_is)
    (within_none r.table (c.in-None.ensures (waiters_at r.table) c.self.invariant.0.passed) c.args.bound
    c.args.phase)
