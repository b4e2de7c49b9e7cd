use Rattle.std.proofs.Common.{List, ap, subst, sym, ◌∙◌}
use Rattle.std.specs.Prelude.{IfSome}
use Rattle.live_rt.specs.inner.Places.{Spot}
use Rattle.live_rt.specs.inner.Says.{IsUnborn}
use Rattle.live_rt.proofs.Held.{items_go_on}
use Rattle.live_rt.proofs.driver.Team.leave.Goals as goal

pub invariant_of-item : goal.invariant_of-item
invariant_of-item g c =
    let item = c.args.item in record {
      newborn = item.newborn;
      says = subst (λ (ps : List Spot). ∥ (g.J.Supposing.supposed → IfSome item.unborn (λ x.
          IsUnborn g.B.Body.shows x.value.body x.value.standing.number x.value.places ps)) ∥₁)
          (sym (c.leave_on.ensures.places ∙ ap (λ t. t.places) c.deref_mut.ensures.value)) item.says;
    }

pub invariant_of-item-2 : goal.invariant_of-item-2
invariant_of-item-2 g c =
    let item = c.args.item in
    let now = c.deref_mut-2.result.now in record {
      newborn = item.newborn;
      says = items_go_on g.B.Body.shows g.J.Supposing.supposed item.unborn (λ x. x.value.body) (λ x. x.value.standing.number) (λ x. x.value.places)
          now.places c.left.new.self.places c.left.ensures.goes
          (subst (λ (ps : List Spot). ∥ (g.J.Supposing.supposed → IfSome item.unborn (λ x.
          IsUnborn g.B.Body.shows x.value.body x.value.standing.number x.value.places ps)) ∥₁)
          (sym (ap (λ t. t.places) c.deref_mut-2.ensures.value ∙ (c.leave_on.ensures.places ∙ ap (λ t. t.places) c.deref_mut.ensures.value))) item.says);
    }
