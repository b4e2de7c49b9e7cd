use Rattle.table_receipts.proofs.Stories.{set_here, set_apart}
use Rattle.table_receipts.proofs.fronts.Fronts.set.Goals as goal

pub returns-clause-here : goal.returns-clause-here
returns-clause-here g c = set_here c.self.inside.fronts.items c.args.phaser c.args.seen (rw (← c.self.view_is) at c.requires.place)

pub returns-clause-others : goal.returns-clause-others
returns-clause-others g c = rw (← c.self.view_is) (λ n other. set_apart c.self.inside.fronts.items c.args.phaser c.args.seen n other)
