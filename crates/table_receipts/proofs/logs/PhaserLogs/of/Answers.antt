use Rattle.std.proofs.Common.{◌≡◌, ap, sym, ◌∙◌}
use Rattle.std.proofs.lemmas.Iterator.Adapters.{YieldsList-from_vec}
use Rattle.std.proofs.lemmas.Iterator.Consumers.{YieldsList-turn}
use Rattle.table_receipts.specs.Logs.{Sight}
use Rattle.table_receipts.proofs.Places.{at_place}
use Rattle.table_receipts.proofs.logs.PhaserLogs.of.Goals as goal

pub invariant_of-push_back : goal.invariant_of-push_back
invariant_of-push_back g c =
    let logs = c.args.logs in
    let gives = c.into_iter-log-iterator.ensures.into_iter_gives in
    let turn = YieldsList-turn (YieldsList-from_vec logs.items gives.0 (gives.1 ∙ logs.ok.0))
    c.loop-log.yielded c.loop-log.log-iterator c.loop-log.yielded_by
    c.next.result c.next.new.self c.in-Some.log c.in-Some.is c.next.ensures.steps in
    let place = c.loop-log.invariant.1 in
    let name = at_place (λ w. w.name ≡ g.K.Logs.logs _) logs.items _ c.in-Some.log turn.0 turn.1 (c.requires.names _) in
    record {
      named = ap (λ (x : Sight). x.log) c.new-log.ensures ∙ (name ∙ ap g.K.Logs.logs (sym place));
      blank = ap (λ (x : Sight). x.story) c.new-log.ensures;
    }
