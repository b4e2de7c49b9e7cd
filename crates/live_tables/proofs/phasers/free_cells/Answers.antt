use Rattle.std.proofs.Common.{◌≡◌, ap, sym, ◌∙◌}
use Rattle.std.proofs.lemmas.Iterator.Adapters.{YieldsList-from_vec}
use Rattle.std.proofs.lemmas.Iterator.Consumers.{YieldsList-turn}
use Rattle.live_tables.proofs.Places.{at_place}
use Rattle.live_tables.proofs.phasers.free_cells.Goals as goal

pub new-requires-clause-name : goal.new-requires-clause-name
new-requires-clause-name g c =
    let logs = c.args.logs in
    let gives = c.into_iter-log-iterator.ensures.into_iter_gives in
    let turn = YieldsList-turn (YieldsList-from_vec logs.items gives.0 (gives.1 ∙ logs.ok.0))
    c.loop-log.yielded c.loop-log.log-iterator c.loop-log.yielded_by
    c.next.result c.next.new.self c.in-Some.log c.in-Some.is c.next.ensures.steps in
    let name = at_place (λ w. w.name ≡ g.J.SlotLogs.slots _) logs.items _ c.in-Some.log turn.0 turn.1 (c.requires.names _) in
    name ∙ ap g.J.SlotLogs.slots (sym c.loop-log.invariant.1)
