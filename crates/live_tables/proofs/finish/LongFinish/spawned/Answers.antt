use Rattle.std.proofs.Common.{◌≡◌, ◌∷◌, true, map, ap, sym, ◌∙◌, arith}
use Rattle.finish_core.specs.Finish.{FinishStory, is_open}
use Rattle.finish_core.specs.declared.event.FinishEvent.TheVariants.{Spawned}
use Rattle.live_tables.specs.Counted.{event_of}
use Rattle.live_tables.proofs.Counts.{full_reply, spawn_reply, spawn_counts, next_is}
use Rattle.live_tables.proofs.finish.LongFinish.spawned.Goals as goal

pub returns-then-self-ge-MOST_TASKS-clause-reply : goal.returns-then-self-ge-MOST_TASKS-clause-reply
returns-then-self-ge-MOST_TASKS-clause-reply c =
    let f = c.self.inside in
    let w : is_open (map event_of f.log.items) ≡ true = ap (λ (v : FinishStory). is_open v.past) c.self.view_is ∙ (sym c.is_open.ensures ∙ c.if-not-is_open.false) in
    rw (← c.self.view_is) (full_reply f.opened f.closed f.spawned f.ended (map event_of f.log.items) c.self.invariant w (omega (arith, c.if-self-ge-MOST_TASKS.true)))

pub invariant_of-self : goal.invariant_of-self
invariant_of-self c =
    let f = c.self.inside in
    let w : is_open (map event_of f.log.items) ≡ true = ap (λ (v : FinishStory). is_open v.past) c.self.view_is ∙ (sym c.is_open.ensures ∙ c.if-not-is_open.false) in
    rw (c.add.ensures.1) (spawn_counts f.opened f.closed f.spawned f.ended (map event_of f.log.items) c.self.invariant w (omega (arith, c.if-self-ge-MOST_TASKS.false)))

pub returns-clause-reply : goal.returns-clause-reply
returns-clause-reply c =
    let f = c.self.inside in
    let w : is_open (map event_of f.log.items) ≡ true = ap (λ (v : FinishStory). is_open v.past) c.self.view_is ∙ (sym c.is_open.ensures ∙ c.if-not-is_open.false) in
    rw (← c.self.view_is) (spawn_reply f.opened f.closed f.spawned f.ended (map event_of f.log.items) c.self.invariant w (omega (arith, c.if-self-ge-MOST_TASKS.false)))

pub returns-clause-history : goal.returns-clause-history
returns-clause-history c =
    let f = c.self.inside in
    rw (← c.self.view_is, c.add.ensures.1) (ap (λ t. record { tasks = 4611686018427387904; past = Spawned t ∷ map event_of f.log.items }) (sym (next_is f.opened f.closed f.spawned f.ended (map event_of f.log.items) c.self.invariant)))
