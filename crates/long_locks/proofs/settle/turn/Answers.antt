use Rattle.long_locks.specs.Turns.{standing}
use Rattle.long_locks.proofs.Going.{turn_is}
use Rattle.long_locks.proofs.settle.turn.Goals as goal

pub returns-clause-turned : goal.returns-clause-turned
returns-clause-turned c =
    turn_is c.args.state.now.story c.args.parked.now.items c.args.freed.now c.in-Some.first
    c.pop_front.new.self.items
    c.step-course.result (standing c.step-course.new.state.story c.park.new.parked.items c.note.new.freed)
    c.in-Some.ensures.items c.step-course.ensures.course c.step-course.ensures.history c.park.ensures.queue
    c.note.ensures
