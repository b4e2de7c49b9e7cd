use Rattle.phaser_engine.proofs.Reading.{not_live}
use Rattle.phaser_engine.proofs.Registers.{unknown}
use Rattle.phaser_engine.proofs.view.View.may_register.Goals as goal

pub returns-in_default-clause-refused : goal.returns-in_default-clause-refused
returns-in_default-clause-refused c =
    let s = c.args.self.now.history.now in
    unknown s c.args.parent c.args.child c.args.mode
    (not_live s c.args.self.now.table.now.lines c.args.self.now.single c.args.self.now.stands
    c.args.parent c.in_default.ensures.none)

pub returns-clause-refused : goal.returns-clause-refused
returns-clause-refused c = rw c.in-Some.ensures.task at c.may_join.ensures.refused

pub returns-clause-done : goal.returns-clause-done
returns-clause-done c = rw c.in-Some.ensures.task at c.may_join.ensures.done
