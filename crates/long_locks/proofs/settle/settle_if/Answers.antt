use Rattle.long_locks.proofs.Going.{settled_of}
use Rattle.long_locks.proofs.settle.settle_if.Goals as goal

pub returns-else-may_go_on-clause-kept : goal.returns-else-may_go_on-clause-kept
returns-else-may_go_on-clause-kept c =
    settled_of c.args.state.now.story c.args.parked.now.items c.requires.sound
    (c.requires.nobody c.if-may_go_on.false)
