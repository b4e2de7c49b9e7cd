use Rattle.std.proofs.Common.{set, take, ap, ◌∙◌}
use Rattle.acc_cells.specs.Cells.{no_partial}
use Rattle.phaser_engine.proofs.InUse.{set_in_use}
use Rattle.phaser_engine.proofs.line_partials.LinePartials.fold.Goals as goal

pub returns-clause-partials : goal.returns-clause-partials
returns-clause-partials c =
    let p = c.self.inside in
    rw (← c.self.view_is) (ap (λ q. take p.used (set p.all.items c.args.place q)) c.take_in.ensures.empty
    ∙ set_in_use p.used p.all.items c.args.place no_partial)
