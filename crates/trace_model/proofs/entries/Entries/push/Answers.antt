use Rattle.trace_model.proofs.Adding.{within_more}
use Rattle.trace_model.proofs.entries.Entries.push.Goals as goal

pub invariant_of-self-in-Ok : goal.invariant_of-self-in-Ok
invariant_of-self-in-Ok c =
    let s = c.self.inside in
    rw c.in_ok-push-in-Ok.ensures.items
    (within_more _ s.kept.items _ c.in-Ok.kept c.self.invariant (c.in-Ok.ensures.short s.long.items).within)
