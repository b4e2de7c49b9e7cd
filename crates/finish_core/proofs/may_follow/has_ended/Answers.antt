-- The chain over the stored list tests the history.
use Rattle.std.proofs.Common.{rules, tests, ◌∙◌, sym}
use Rattle.std.proofs.lemmas.Iterator.{YieldsList-from_slice}
use Rattle.std.proofs.lemmas.Iterator.Search.{any_from_yields_List}
use Rattle.finish_core.specs.Finish.{ends}
use Rattle.finish_core.proofs.Past.{list_any-reverse}
use Rattle.finish_core.proofs.may_follow.has_ended.Goals as goal

pub returns : goal.returns
returns c =
    let xs = c.args.events.now in
    let test = ends c.args.task in
    any_from_yields_List test _ _ c.any.result c.any.ensures.ran (YieldsList-from_slice xs cc)
    (λ x b q k. search (rules, tests))
    ∙ sym (list_any-reverse test xs)
