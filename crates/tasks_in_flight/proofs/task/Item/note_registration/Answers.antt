use Rattle.std.proofs.Common.{◌≡◌, Bool, List, Option, Some, ◌∷◌, [], ◌++◌, ap, sym, ◌∙◌, rules}
use Rattle.std.specs.Prelude.{find}
use Rattle.task_standing.specs.declared.held.Held.{Held}
use Rattle.tasks_in_flight.proofs.task.Item.note_registration.Goals as goal

-- what was found in one list stands in the other
found_in : (f : Held → Bool) (found : Option Held) (hs gs : List Held) (h : Held)
    → found ≡ find f hs → hs ≡ gs → found ≡ Some h → find f gs ≡ Some h
found_in f found hs gs h there same is = ap (λ xs. find f xs) (sym same) ∙ (sym there ∙ is)

pub returns-clause-child : goal.returns-clause-child
returns-clause-child g c =
    let child = c.in-Some-unborn.child.value.standing in
    rw (c.in-Some-unborn.is, found_in _ _ _ _ _ c.held.ensures (ap (λ t. t.standing.holding) c.deref.ensures) c.in-Some.is)
    (ap Some (c.in_ok-join.ensures.joined
    ∙ (ap (λ t. record t.standing { holding = t.standing.holding ++ c.handed.result ∷ [] }) c.deref_mut.ensures.value
    ∙ ap (λ h. record child { holding = child.holding ++ h ∷ [] }) c.handed.ensures)))

-- the parent holds the phaser, and there is a child
pub returns-in_err-join-clause-why : goal.returns-in_err-join-clause-why
returns-in_err-join-clause-why g c =
    rw (c.in-Some-unborn.is, found_in _ _ _ _ _ c.held.ensures (ap (λ t. t.standing.holding) c.deref.ensures) c.in-Some.is)
    (search rules)
