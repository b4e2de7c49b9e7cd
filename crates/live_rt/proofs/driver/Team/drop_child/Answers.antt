use Rattle.std.proofs.Common.{Option, Some, List, ap, subst, sym, ◌≡◌}
use Rattle.std.specs.Prelude.{IfSome}
use Rattle.std.proofs.Math.Logic.{∥∥₁_map}
use Rattle.job_script.specs.declared.act.Answer.{Answer}
use Rattle.job_script.specs.declared.act.Answer.TheVariants.{Started}
use Rattle.task_standing.specs.Known.{Known}
use Rattle.live_rt.specs.inner.Places.{Spot}
use Rattle.live_rt.specs.inner.Says.{IsUnborn}
use Rattle.live_rt.proofs.About.{unborn_kept}
use Rattle.live_rt.proofs.driver.Team.drop_child.Goals as goal

pub invariant_of-item-in_err-leave_on : goal.invariant_of-item-in_err-leave_on
invariant_of-item-in_err-leave_on g c =
    let item = c.args.item in
    let child = c.deref_mut.result.now in
    let new = c.leave_on.new.task in
    let same = c.leave_on.ensures in record {
      newborn = subst (λ (a : Option Answer). ∥ a ≡ Some Started ∥₁) (sym same.answer)
          (subst (λ t. ∥ t.answer ≡ Some Started ∥₁) (sym c.deref_mut.ensures.value)
          (subst (λ o. ∥ IfSome o (λ x. x.value.answer ≡ Some Started) ∥₁) c.in-Some.is item.newborn));
      says = ∥∥₁_map (subst (λ t. ∥ (g.J.Supposing.supposed → IsUnborn g.B.Body.shows t.body t.standing.number t.places item.task.value.places) ∥₁)
          (sym c.deref_mut.ensures.value) (subst (λ o. ∥ (g.J.Supposing.supposed → IfSome o (λ x.
          IsUnborn g.B.Body.shows x.value.body x.value.standing.number x.value.places item.task.value.places)) ∥₁) c.in-Some.is item.says))
          (λ f q. subst (λ (ps : List Spot). IsUnborn g.B.Body.shows new.body new.standing.number ps item.task.value.places) (sym same.places)
          (unborn_kept g.B.Body.shows new.body child.standing.number new.standing.number child.places item.task.value.places
          same.body (ap (λ (k : Known). k.number) same.standing) (f q)));
    }

pub invariant_of-item-2 : goal.invariant_of-item-2
invariant_of-item-2 g c =
    let item = c.args.item in
    let child = c.deref_mut.result.now in
    let new = c.leave_on.new.task in
    let same = c.leave_on.ensures in record {
      newborn = subst (λ (a : Option Answer). ∥ a ≡ Some Started ∥₁) (sym same.answer)
          (subst (λ t. ∥ t.answer ≡ Some Started ∥₁) (sym c.deref_mut.ensures.value)
          (subst (λ o. ∥ IfSome o (λ x. x.value.answer ≡ Some Started) ∥₁) c.in-Some.is item.newborn));
      says = ∥∥₁_map (subst (λ t. ∥ (g.J.Supposing.supposed → IsUnborn g.B.Body.shows t.body t.standing.number t.places item.task.value.places) ∥₁)
          (sym c.deref_mut.ensures.value) (subst (λ o. ∥ (g.J.Supposing.supposed → IfSome o (λ x.
          IsUnborn g.B.Body.shows x.value.body x.value.standing.number x.value.places item.task.value.places)) ∥₁) c.in-Some.is item.says))
          (λ f q. subst (λ (ps : List Spot). IsUnborn g.B.Body.shows new.body new.standing.number ps item.task.value.places) (sym same.places)
          (unborn_kept g.B.Body.shows new.body child.standing.number new.standing.number child.places item.task.value.places
          same.body (ap (λ (k : Known). k.number) same.standing) (f q)));
    }
