use Rattle.told_history.specs.Wide.{event_of}
use Rattle.long_locks.proofs.Tails.{mapped}
use Rattle.long_locks.proofs.front.Front.begins.Goals as goal

pub returns-clause-begins : goal.returns-clause-begins
returns-clause-begins g c =
    let seen = rw c.again.ensures.1 at c.includes.ensures.1 in
    rw (← c.self.view_is) (mapped event_of c.self.inside.seen.items c.args.log.now.items seen)
