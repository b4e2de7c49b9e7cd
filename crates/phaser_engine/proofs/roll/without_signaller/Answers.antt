use Rattle.std.proofs.Common.{sym, ◌∙◌}
use Rattle.std.proofs.lemmas.Option.{IfSome_then}
use Rattle.phaser_engine.specs.Line.{stands_at}
use Rattle.phaser_engine.proofs.Counting.{signaller_at, leaves_there}
use Rattle.phaser_engine.proofs.roll.without_signaller.Goals as goal

pub returns-then-can_signal : goal.returns-then-can_signal
returns-then-can_signal c =
    let p = c.signals.result in
    let at =
    signaller_at p c.args.reg (sym c.can_signal.ensures ∙ c.if-can_signal.true) (sym c.signals.ensures) in
    IfSome_then c.without.result c.without.ensures.some
    (λ rear left before after is fewer.
    left before after is (leaves_there stands_at p c.args.reg before after at fewer))
