use Rattle.phaser_engine.proofs.view.View.may_register_last.Goals as goal

pub returns-then-comes_last-clause-done : goal.returns-then-comes_last-clause-done
returns-then-comes_last-clause-done c = rw c.in-Some.ensures.task at c.in-Ok.ensures.done
