use Rattle.phaser_judge.proofs.Moving.{moves, accepts, refuses}
use Rattle.phaser_judge.proofs.judged.Judged.event.Goals as goal

pub returns-clause-accepted : goal.returns-clause-accepted
returns-clause-accepted c = accepts c.step.result c.args.self.now c.args.event.now c.step.ensures.said

pub returns-clause-refused : goal.returns-clause-refused
returns-clause-refused c =
    refuses c.step.result _ c.args.self.now c.args.event.now c.self.view_is c.history.ensures.legal c.step.ensures.said

pub returns-clause-moved : goal.returns-clause-moved
returns-clause-moved c =
    moves c.step.result c.args.self.now c.args.event.now c.step.new.self c.step.ensures.said c.step.ensures.story
    c.step.ensures.names c.step.ensures.next
