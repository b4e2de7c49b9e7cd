-- The chain over the stored list tests the history, which has an event.
use Rattle.std.proofs.Common.{◌≡◌, not, List, [], ◌∷◌, length, reverse, refl, ap, sym, ◌∙◌, rules, tests}
use Rattle.std.proofs.lemmas.List.{length-reverse}
use Rattle.std.specs.List.{list_any}
use Rattle.std.proofs.lemmas.Bool.{eqb-false}
use Rattle.std.proofs.lemmas.Iterator.{YieldsList-from_slice}
use Rattle.std.proofs.lemmas.Iterator.Search.{any_from_yields_List}
use Rattle.finish_core.specs.declared.event.FinishEvent.{FinishEvent}
use Rattle.finish_core.specs.Finish.{shuts, is_open}
use Rattle.finish_core.proofs.Past.{list_any-reverse}
use Rattle.finish_core.proofs.may_follow.is_open.Goals as goal

-- a history with events is open where none of them shuts it
open_with_events : (h : List FinishEvent) → (length h ≡ 0 → ⊥) → is_open h ≡ not (list_any shuts h)
open_with_events [] some = absurd (some refl)
open_with_events (e ∷ h) some = refl

pub returns-then-not-is_empty : goal.returns-then-not-is_empty
returns-then-not-is_empty c =
    let xs = c.args.events.now in
    let found =
    any_from_yields_List shuts _ _ c.any.result c.any.ensures.ran (YieldsList-from_slice xs cc)
    (λ x b q k. search (rules, tests)) in
    let some = eqb-false (length xs) 0 (sym c.if-not-is_empty.ensures) in
    let whole = open_with_events (reverse xs) (λ e. some (sym (length-reverse xs) ∙ e)) in
    ap not (found ∙ sym (list_any-reverse shuts xs)) ∙ sym whole
