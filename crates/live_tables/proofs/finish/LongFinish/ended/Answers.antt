use Rattle.std.proofs.Common.{◌≡◌, true, map, ap, sym, ◌∙◌, arith}
use Rattle.finish_core.specs.Finish.{FinishStory, is_open}
use Rattle.live_tables.specs.Counted.{event_of}
use Rattle.live_tables.proofs.Counts.{none_reply, end_reply, end_counts}
use Rattle.live_tables.proofs.finish.LongFinish.ended.Goals as goal

pub returns-then-self-clause-reply : goal.returns-then-self-clause-reply
returns-then-self-clause-reply c =
    let f = c.self.inside in
    rw (← c.self.view_is) (none_reply f.opened f.closed f.spawned f.ended (map event_of f.log.items) c.self.invariant (omega (arith, c.if-self.true)))

pub invariant_of-self : goal.invariant_of-self
invariant_of-self c =
    let f = c.self.inside in
    let w : is_open (map event_of f.log.items) ≡ true = ap (λ (v : FinishStory). is_open v.past) c.self.view_is ∙ (sym c.is_open.ensures ∙ c.if-not-is_open.false) in
    rw (c.add.ensures.1) (end_counts f.opened f.closed f.spawned f.ended (map event_of f.log.items) c.self.invariant w (omega (arith, c.if-self.false)))

pub returns-clause-reply : goal.returns-clause-reply
returns-clause-reply c =
    let f = c.self.inside in
    let w : is_open (map event_of f.log.items) ≡ true = ap (λ (v : FinishStory). is_open v.past) c.self.view_is ∙ (sym c.is_open.ensures ∙ c.if-not-is_open.false) in
    rw (← c.self.view_is) (end_reply f.opened f.closed f.spawned f.ended (map event_of f.log.items) c.self.invariant w (omega (arith, c.if-self.false)))
