use Rattle.std.proofs.Common.{List, ap, subst, sym, ◌∙◌}
use Rattle.std.specs.Prelude.{IfSome}
use Rattle.live_rt.specs.inner.Places.{Spot}
use Rattle.live_rt.specs.inner.Says.{IsUnborn}
use Rattle.live_rt.proofs.driver.Team.shut.Goals as goal

pub invariant_of-item-in-Done : goal.invariant_of-item-in-Done
invariant_of-item-in-Done g c =
    let item = c.in-Done.shut in record {
      newborn = item.newborn;
      says = subst (λ (ps : List Spot). ∥ (g.J.Supposing.supposed → IfSome item.unborn (λ x.
          IsUnborn g.B.Body.shows x.value.body x.value.standing.number x.value.places ps)) ∥₁)
          (sym (c.shut-in-Done.ensures.places ∙ ap (λ t. t.places) c.deref_mut.ensures.value)) item.says;
    }
