-- A phaser without a past has nothing that its operators could have folded.
use Rattle.phaser_engine.proofs.Blank.{blank_stands}
use Rattle.phaser_engine.proofs.state.Engine.set_terms.Goals as goal

pub invariant_of-self : goal.invariant_of-self
invariant_of-self c =
    let p = c.self.inside in
    rw c.set_terms.ensures
    (blank_stands p.history c.args.terms p.table p.single p.cells c.set_ops.new.self
    (rw (← c.self.view_is) at c.requires.new) (rw (← c.self.view_is) at c.requires.whole) c.self.invariant c.set_ops.ensures.ops
    c.set_ops.ensures.room c.set_ops.ensures.from c.set_ops.ensures.sums c.set_ops.ensures.cells)
