use Rattle.std.proofs.Common.{sym, ◌∙◌}
use Rattle.phaser_engine.specs.Line.{stands_at}
use Rattle.phaser_engine.proofs.Counting.{signaller_at, enters_there}
use Rattle.phaser_engine.proofs.roll.with_signaller.Goals as goal

pub returns-then-can_signal : goal.returns-then-can_signal
returns-then-can_signal c = λ before after is more.
    let p = c.signals.result in
    let at =
    signaller_at p c.args.reg (sym c.can_signal.ensures ∙ c.if-can_signal.true) (sym c.signals.ensures) in
    c.with.ensures before after is (enters_there stands_at p c.args.reg before after at more)
