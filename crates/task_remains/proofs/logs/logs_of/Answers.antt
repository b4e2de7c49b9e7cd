use Rattle.std.proofs.Common.{List, length, map, refl, ap, sym, ◌∙◌, arith}
use Rattle.std.specs.List.{sum as total}
use Rattle.std.proofs.lemmas.List.{map-id}
use Rattle.std.proofs.lemmas.Iterator.Adapters.{YieldsList-from_vec}
use Rattle.std.proofs.lemmas.Iterator.Consumers.{YieldsList-end}
use Rattle.task_remains.proofs.Gathering.{all_logs, none_told, told_there, one_longer, last_of}
use Rattle.task_remains.proofs.Sums.{total_more}
use Rattle.task_remains.proofs.logs.logs_of.Goals as goal

pub loop-of_finish-init : goal.loop-of_finish-init
loop-of_finish-init g c = record {
  own = c.in_ok-gathered.ensures.own;
  told = none_told g.K.Supposing.supposed g.K.Supposing.told c.args.told.now.items c.in_ok-gathered.gathered.parts.items c.in_ok-gathered.ensures.empty;
  same = refl;
  number = omega (arith, ap (λ (ps : List _). length ps) c.in_ok-gathered.ensures.empty);
}

pub add_all-requires-clause-logs : goal.add_all-requires-clause-logs
add_all-requires-clause-logs g c =
    all_logs g.K.Logs.logs g.K.Logs.limits.phasers c.args.told.now.items c.loop-of_finish.told.items c.loop-of_finish.invariant.same c.requires.logs

pub add_all-requires-clause-told : goal.add_all-requires-clause-told
add_all-requires-clause-told g c =
    told_there g.K.Supposing.supposed g.K.Supposing.told c.loop-of_finish.gathered.parts.items
    c.args.told.now.items c.loop-of_finish.told.items c.loop-of_finish.invariant.same c.loop-of_finish.invariant.told

pub loop-of_finish-preserved : goal.loop-of_finish-preserved
loop-of_finish-preserved g c = record {
  own = c.in_ok-add_all.ensures.own;
  told = told_there g.K.Supposing.supposed g.K.Supposing.told c.add_all.new.self.parts.items
      c.loop-of_finish.told.items c.args.told.now.items (sym c.loop-of_finish.invariant.same) c.in_ok-add_all.ensures.told;
  same = c.in_ok-add_all.ensures.same ∙ c.loop-of_finish.invariant.same;
  number = omega (
    arith,
    total_more (λ d. length d.items) c.loop-of_finish.yielded c.in-Some.of_finish,
    c.in_ok-add_all.ensures.number,
    c.loop-of_finish.invariant.number,
  );
}

pub add-requires-clause-logs : goal.add-requires-clause-logs
add-requires-clause-logs g c =
    all_logs g.K.Logs.logs g.K.Logs.limits.phasers c.args.told.now.items c.loop-of_finish.told.items c.loop-of_finish.invariant.same c.requires.logs

pub add-requires-clause-told : goal.add-requires-clause-told
add-requires-clause-told g c =
    told_there g.K.Supposing.supposed g.K.Supposing.told c.loop-of_finish.gathered.parts.items
    c.args.told.now.items c.loop-of_finish.told.items c.loop-of_finish.invariant.same c.loop-of_finish.invariant.told

pub returns-clause-own : goal.returns-clause-own
returns-clause-own g c = let own = c.in_ok-add.ensures.own in (own.0, own.1, own.2)

pub returns-clause-told : goal.returns-clause-told
returns-clause-told g c =
    told_there g.K.Supposing.supposed g.K.Supposing.told c.add.new.self.parts.items
    c.loop-of_finish.told.items c.args.told.now.items (sym c.loop-of_finish.invariant.same) c.in_ok-add.ensures.told

pub returns-clause-number : goal.returns-clause-number
returns-clause-number g c =
    let left = c.args.left in
    let gives = c.into_iter-of_finish-iterator.ensures.into_iter_gives in
    let end = YieldsList-end (YieldsList-from_vec left.items gives.0 (gives.1 ∙ left.ok.0))
    c.loop-of_finish.yielded c.loop-of_finish.of_finish-iterator c.loop-of_finish.yielded_by
    c.next.result c.next.new.self c.in-None.is c.next.ensures.steps in
    let all = sym (map-id c.loop-of_finish.yielded) ∙ end.0 in
    omega (
      arith,
      one_longer _ _ _ c.in_ok-add.ensures.parts,
      c.loop-of_finish.invariant.number,
      ap (λ (ds : List _). total (map (λ d. length d.items) ds)) all,
    )

pub returns-clause-root : goal.returns-clause-root
returns-clause-root g c =
    let left = c.args.left in
    let gives = c.into_iter-of_finish-iterator.ensures.into_iter_gives in
    let end = YieldsList-end (YieldsList-from_vec left.items gives.0 (gives.1 ∙ left.ok.0))
    c.loop-of_finish.yielded c.loop-of_finish.of_finish-iterator c.loop-of_finish.yielded_by
    c.next.result c.next.new.self c.in-None.is c.next.ensures.steps in
    let all = sym (map-id c.loop-of_finish.yielded) ∙ end.0 in
    last_of _ _ _ (total (map (λ d. length d.items) left.items)) c.in_ok-add.ensures.parts
    (c.loop-of_finish.invariant.number ∙ ap (λ (ds : List _). total (map (λ d. length d.items) ds)) all)
