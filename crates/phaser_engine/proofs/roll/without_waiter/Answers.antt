use Rattle.std.proofs.Common.{refl, sym, ◌∙◌}
use Rattle.std.proofs.lemmas.Option.{IfSome_then}
use Rattle.phaser_engine.specs.Line.{waits_at}
use Rattle.phaser_engine.proofs.Counting.{waiter_at, leaves_there}
use Rattle.phaser_engine.proofs.roll.without_waiter.Goals as goal

pub returns-then-can_wait : goal.returns-then-can_wait
returns-then-can_wait c =
    let p = c.args.reg.phase in
    let at = waiter_at p c.args.reg (sym c.can_wait.ensures ∙ c.if-can_wait.true) refl in
    IfSome_then c.without.result c.without.ensures.some
    (λ rear left before after is fewer.
    left before after is (leaves_there waits_at p c.args.reg before after at fewer))
