use Rattle.std.proofs.Common.{◌∙◌}
use Rattle.phaser_engine.proofs.Reading.{count_is}
use Rattle.phaser_engine.proofs.state.Engine.registered.Goals as goal

pub returns : goal.returns
returns c =
    let p = c.self.inside in
    rw (← c.self.view_is)
    (c.len.ensures ∙ count_is p.history p.table.lines p.single c.self.invariant.stands)
