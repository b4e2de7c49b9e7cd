use Rattle.std.proofs.Common.{◌≡◌, ◌∷◌, [], Some, map, length, ap, ◌∙◌, subst, arith}
use Rattle.std.proofs.lemmas.List.{map-append, nil_from_length}
use Rattle.std.proofs.lemmas.List.Elements.{All-pop}
use Rattle.crossbeam_deque.specs.Handles.{worker_deque}
use Rattle.task_queue.specs.inner.Emptied.{IsWholeBut, AreRows}
use Rattle.task_queue.proofs.Emptying.{part_grows, part_ends}
use Rattle.task_queue.proofs.closing.empty_all.Goals as goal

pub empty_last-requires-clause-rows : goal.empty_last-requires-clause-rows
empty_last-requires-clause-rows g c =
    let owns = c.pop.new.self.items in
    let own = c.in-Some.own in
    subst (λ ds. AreRows ds c.loop-own.rows.items) (ap (λ ds. map worker_deque ds) c.in-Some.ensures.items ∙ map-append worker_deque owns (own ∷ [])) c.loop-own.invariant.rows

pub loop-own-preserved : goal.loop-own-preserved
loop-own-preserved g c =
    let i = c.loop-own.invariant in
    let e = c.in_ok-kept.ensures in
    let is = c.in-Some.ensures.items in
    record {
      owns = (All-pop (IsWholeBut (length c.args.rows.items)) c.loop-own.owns.items c.pop.new.self.items (Some c.in-Some.own) is i.owns).0;
      lengths = e.length ∙ i.lengths;
      rows = e.rows;
      rest = part_grows c.args.owns.items c.args.rows.items c.loop-own.owns.items c.pop.new.self.items c.in-Some.own c.loop-own.rows.items c.in_ok-kept.kept.items c.loop-own.rest.items c.in_ok-kept.all.items is e.rest i.rest;
    }

pub returns : goal.returns
returns g c =
    let i = c.loop-own.invariant in
    let owns = c.loop-own.owns in
    let none : owns.items ≡ [] = nil_from_length owns.items (omega (arith, c.in_default.ensures.cases.0, owns.ok.0)) in
    part_ends c.args.owns.items c.args.rows.items owns.items c.loop-own.rows.items c.loop-own.rest.items none i.rows i.rest
