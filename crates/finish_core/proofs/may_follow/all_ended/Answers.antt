-- The chain over the stored list tests the history.
use Rattle.std.proofs.Common.{Bool, true, reverse, rules, tests, ◌∙◌, sym}
use Rattle.std.specs.Option.{option_map_or}
use Rattle.std.proofs.lemmas.Iterator.{YieldsList-from_slice}
use Rattle.std.proofs.lemmas.Iterator.Search.{all_from_yields_List}
use Rattle.finish_core.specs.declared.event.FinishEvent.{FinishEvent}
use Rattle.finish_core.specs.Finish.{spawned_by, has_ended}
use Rattle.finish_core.proofs.Past.{list_all-reverse, list_all-filter_map}
use Rattle.finish_core.proofs.may_follow.all_ended.Goals as goal

pub returns : goal.returns
returns c =
    let xs = c.args.events.now in
    let h = reverse xs in
    let test : FinishEvent → Bool = λ e. option_map_or (λ t. has_ended t h) (spawned_by e) true in
    all_from_yields_List test _ _ c.all.result c.all.ensures.ran (YieldsList-from_slice xs cc)
    (λ x b q k. search (rules, tests))
    ∙ (sym (list_all-reverse test xs) ∙ sym (list_all-filter_map (λ t. has_ended t h) spawned_by h))
