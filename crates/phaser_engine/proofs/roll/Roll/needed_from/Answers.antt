use Rattle.std.proofs.Common.{arith}
use Rattle.phaser_engine.specs.Line.{waiters_at}
use Rattle.phaser_engine.proofs.Counting.{all_passed, one_passed}
use Rattle.phaser_engine.proofs.roll.Roll.needed_from.Goals as goal

pub returns-in-Some-clause-each : goal.returns-in-Some-clause-each
returns-in-Some-clause-each c = λ some.
    let r = c.self.inside in
    let least = c.in-Some.ensures (waiters_at r.table) c.self.invariant.0.passed in
    rw (← c.self.view_is)
    (all_passed r.table c.saturating_sub.result
    (λ k near. least.1 k (omega (arith, near, some, c.saturating_sub.ensures))))

pub returns-in-Some-clause-some : goal.returns-in-Some-clause-some
returns-in-Some-clause-some c = λ some.
    let r = c.self.inside in
    let least = c.in-Some.ensures (waiters_at r.table) c.self.invariant.0.passed in
    rw (← c.self.view_is)
    (one_passed r.table c.saturating_sub.result c.in-Some.least
    (omega (arith, some, c.saturating_sub.ensures)) least.0)
