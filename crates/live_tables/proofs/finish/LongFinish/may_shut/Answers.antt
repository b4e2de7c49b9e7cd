use Rattle.std.proofs.Common.{◌≡◌, true, map, ap, sym, ◌∙◌}
use Rattle.finish_core.specs.Finish.{FinishStory, is_open}
use Rattle.live_tables.specs.Counted.{event_of}
use Rattle.live_tables.proofs.Counts.{shut_is}
use Rattle.live_tables.proofs.finish.LongFinish.may_shut.Goals as goal

pub returns-then-is_open : goal.returns-then-is_open
returns-then-is_open c =
    let f = c.self.inside in
    let w : is_open (map event_of f.log.items) ≡ true = ap (λ (v : FinishStory). is_open v.past) c.self.view_is ∙ (sym c.is_open.ensures ∙ c.if-is_open.true) in
    rw (← c.self.view_is) (shut_is f.opened f.closed f.spawned f.ended (map event_of f.log.items) c.self.invariant w)
