-- The chain over the stored list tests the history.
use Rattle.std.proofs.Common.{Bool, ◌==◌, false, reverse, rules, tests, ◌∙◌, sym}
use Rattle.std.specs.Option.{option_map_or}
use Rattle.std.proofs.lemmas.Iterator.{YieldsList-from_slice}
use Rattle.std.proofs.lemmas.Iterator.Search.{any_from_yields_List}
use Rattle.finish_core.specs.declared.event.FinishEvent.{FinishEvent}
use Rattle.finish_core.specs.Finish.{spawned_by}
use Rattle.finish_core.proofs.Past.{list_any-reverse, list_any-filter_map}
use Rattle.finish_core.proofs.may_follow.is_spawned.Goals as goal

pub returns : goal.returns
returns c =
    let xs = c.args.events.now in
    let test : FinishEvent → Bool = λ e. option_map_or (λ u. u == c.args.task) (spawned_by e) false in
    any_from_yields_List test _ _ c.any.result c.any.ensures.ran (YieldsList-from_slice xs cc)
    (λ x b q k. search (rules, tests))
    ∙ (sym (list_any-reverse test xs)
    ∙ sym (list_any-filter_map (λ u. u == c.args.task) spawned_by (reverse xs)))
