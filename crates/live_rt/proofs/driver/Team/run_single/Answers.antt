use Rattle.std.proofs.Common.{List, ap, subst, sym, ◌∙◌}
use Rattle.std.specs.Prelude.{IfSome}
use Rattle.live_rt.specs.inner.Places.{Spot}
use Rattle.live_rt.specs.inner.Says.{IsUnborn}
use Rattle.live_rt.proofs.driver.Team.run_single.Goals as goal

pub invariant_of-item : goal.invariant_of-item
invariant_of-item g c =
    let item = c.args.item in record {
      newborn = item.newborn;
      says = subst (λ (ps : List Spot). ∥ (g.J.Supposing.supposed → IfSome item.unborn (λ x.
          IsUnborn g.B.Body.shows x.value.body x.value.standing.number x.value.places ps)) ∥₁)
          (sym (c.report_on.ensures.places ∙ (ap (λ t. t.places) c.deref_mut-2.ensures.value ∙ (c.run_single.ensures.places ∙ ap (λ t. t.places) c.deref_mut.ensures.value)))) item.says;
    }

pub invariant_of-item-2 : goal.invariant_of-item-2
invariant_of-item-2 g c =
    let item = c.args.item in record {
      newborn = item.newborn;
      says = subst (λ (ps : List Spot). ∥ (g.J.Supposing.supposed → IfSome item.unborn (λ x.
          IsUnborn g.B.Body.shows x.value.body x.value.standing.number x.value.places ps)) ∥₁)
          (sym (c.report_on.ensures.places ∙ (ap (λ t. t.places) c.deref_mut-2.ensures.value ∙ (c.run_single.ensures.places ∙ ap (λ t. t.places) c.deref_mut.ensures.value)))) item.says;
    }
