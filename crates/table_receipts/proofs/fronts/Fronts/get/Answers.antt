use Rattle.std.proofs.Common.{ap, ◌∙◌}
use Rattle.table_receipts.specs.Logs.{Sight}
use Rattle.table_receipts.proofs.Stories.{at_same}
use Rattle.table_receipts.proofs.fronts.Fronts.get.Goals as goal

pub returns-clause-story : goal.returns-clause-story
returns-clause-story g c =
    ap (λ (x : Sight). x.story) c.again.ensures.0
    ∙ rw (← c.self.view_is) (at_same c.self.inside.fronts.items c.args.phaser c.index_mut.result.now (rw (← c.self.view_is) at c.requires) c.index_mut.ensures.value)
