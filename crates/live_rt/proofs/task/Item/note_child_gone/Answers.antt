use Rattle.std.proofs.Common.{Option, Some, subst, sym, ◌≡◌}
use Rattle.std.specs.Prelude.{IfSome}
use Rattle.std.proofs.Math.Logic.{∥∥₁_map}
use Rattle.job_script.specs.declared.act.Answer.{Answer}
use Rattle.job_script.specs.declared.act.Answer.TheVariants.{Started}
use Rattle.live_rt.specs.inner.Says.{IsUnborn}
use Rattle.live_rt.proofs.About.{unborn_parted, unborn_kept}
use Rattle.live_rt.proofs.task.Item.note_child_gone.Goals as goal

pub part-requires : goal.part-requires
part-requires g c =
    let old = c.args.self.now in
    record {
      newborn = subst (λ t. ∥ t.answer ≡ Some Started ∥₁) (sym c.deref_mut.ensures.value)
          (subst (λ o. ∥ IfSome o (λ x. x.value.answer ≡ Some Started) ∥₁) c.in-Some.is old.newborn);
    }

pub invariant_of-self : goal.invariant_of-self
invariant_of-self g c =
    let old = c.args.self.now in
    let child = c.deref_mut.result.now in
    let new = c.part.new.self in record {
      newborn = subst (λ (a : Option Answer). ∥ a ≡ Some Started ∥₁) (sym c.part.ensures.answer)
          (subst (λ t. ∥ t.answer ≡ Some Started ∥₁) (sym c.deref_mut.ensures.value)
          (subst (λ o. ∥ IfSome o (λ x. x.value.answer ≡ Some Started) ∥₁) c.in-Some.is old.newborn));
      says = ∥∥₁_map (subst (λ t. ∥ (g.J.Supposing.supposed → IsUnborn g.B.Body.shows t.body t.standing.number t.places old.task.value.places) ∥₁)
          (sym c.deref_mut.ensures.value) (subst (λ o. ∥ (g.J.Supposing.supposed → IfSome o (λ x.
          IsUnborn g.B.Body.shows x.value.body x.value.standing.number x.value.places old.task.value.places)) ∥₁) c.in-Some.is old.says))
          (λ f q. unborn_kept g.B.Body.shows new.body child.standing.number new.standing.number new.places old.task.value.places
          c.part.ensures.body c.part.ensures.number
          (unborn_parted g.B.Body.shows child.standing.number child.places old.task.value.places new.places c.args.phaser
          c.part.ensures.gone c.part.ensures.others (f q)));
    }
