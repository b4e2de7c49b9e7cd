use Rattle.std.proofs.Common.{refl, sym, ◌∙◌}
use Rattle.phaser_engine.specs.Line.{waits_at}
use Rattle.phaser_engine.proofs.Counting.{waiter_at, enters_there}
use Rattle.phaser_engine.proofs.roll.with_waiter.Goals as goal

pub returns-then-can_wait : goal.returns-then-can_wait
returns-then-can_wait c = λ before after is more.
    let p = c.args.reg.phase in
    let at = waiter_at p c.args.reg (sym c.can_wait.ensures ∙ c.if-can_wait.true) refl in
    c.with.ensures before after is (enters_there waits_at p c.args.reg before after at more)
