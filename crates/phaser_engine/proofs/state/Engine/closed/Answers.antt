use Rattle.std.proofs.Common.{◌∙◌}
use Rattle.phaser_engine.proofs.Reading.{closed_is}
use Rattle.phaser_engine.proofs.state.Engine.closed.Goals as goal

pub returns : goal.returns
returns c =
    rw (← c.self.view_is)
    (c.is_closed.ensures
    ∙ closed_is c.self.inside.history c.self.inside.table.lines c.self.inside.single
    c.self.invariant.stands c.args.phase)
