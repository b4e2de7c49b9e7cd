use Rattle.std.proofs.Common.{◌-◌, take, ap, ◌∙◌, arith}
use Rattle.phaser_engine.proofs.InUse.{remove_in_use}
use Rattle.phaser_engine.proofs.line_partials.LinePartials.remove.Goals as goal

pub returns-then-place-self : goal.returns-then-place-self
returns-then-place-self c =
    let p = c.self.inside in
    rw (← c.self.view_is)
    (ap (λ qs. take (p.used - 1) qs) c.remove-gone.ensures.items
    ∙ remove_in_use p.used p.all.items c.args.place (omega (arith, c.if-place-self.true))
    c.self.invariant.within)
