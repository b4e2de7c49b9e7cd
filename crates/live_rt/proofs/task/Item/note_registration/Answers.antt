use Rattle.std.proofs.Common.{Some, ap, subst, sym, ◌∙◌, ◌≡◌}
use Rattle.std.specs.Prelude.{IfSome}
use Rattle.std.proofs.Math.Logic.{∥∥₁_map}
use Rattle.job_script.specs.declared.act.Answer.TheVariants.{Started}
use Rattle.live_rt.specs.inner.Places.{spot}
use Rattle.live_rt.specs.inner.Says.{IsUnborn}
use Rattle.live_rt.proofs.About.{unborn_further, unborn_whichever, unborn_parents}
use Rattle.live_rt.proofs.task.Item.note_registration.Goals as goal

pub join-requires : goal.join-requires
join-requires g c =
    let old = c.args.self.now in
    let child = c.deref_mut.result.now in
    let p = spot c.args.place.at c.args.place.me c.args.place.seen.items in
    let further = c.requires.further in record {
      newborn = subst (λ t. ∥ t.answer ≡ Some Started ∥₁) (sym c.deref_mut.ensures.value)
          (subst (λ o. ∥ IfSome o (λ x. x.value.answer ≡ Some Started) ∥₁) c.in-Some-unborn.is old.newborn);
      unborn = ∥∥₁_map (subst (λ t. ∥ (g.J.Supposing.supposed → IsUnborn g.B.Body.shows t.body t.standing.number t.places old.task.value.places) ∥₁)
          (sym c.deref_mut.ensures.value) (subst (λ o. ∥ (g.J.Supposing.supposed → IfSome o (λ x.
          IsUnborn g.B.Body.shows x.value.body x.value.standing.number x.value.places old.task.value.places)) ∥₁) c.in-Some-unborn.is old.says))
          (λ f q. unborn_further g.B.Body.shows child.standing.number child.places old.task.value.places p further.0 further.1 further.2 (f q));
    }

-- the child says the same, whether it was handed the phaser or not
pub invariant_of-self-in-Break-1 : goal.invariant_of-self-in-Break-1
invariant_of-self-in-Break-1 g c =
    let old = c.args.self.now in
    let child = c.deref_mut.result.now in
    let new = c.join.new.self in
    let p = spot c.args.place.at c.args.place.me c.args.place.seen.items in
    let further = c.requires.further in record {
      newborn = subst (λ a. ∥ a ≡ Some Started ∥₁) (sym c.join.ensures.answer)
          (subst (λ t. ∥ t.answer ≡ Some Started ∥₁) (sym c.deref_mut.ensures.value)
          (subst (λ o. ∥ IfSome o (λ x. x.value.answer ≡ Some Started) ∥₁) c.in-Some-unborn.is old.newborn));
      says = ∥∥₁_map (subst (λ t. ∥ (g.J.Supposing.supposed → IsUnborn g.B.Body.shows t.body t.standing.number t.places old.task.value.places) ∥₁)
          (sym c.deref_mut.ensures.value) (subst (λ o. ∥ (g.J.Supposing.supposed → IfSome o (λ x.
          IsUnborn g.B.Body.shows x.value.body x.value.standing.number x.value.places old.task.value.places)) ∥₁) c.in-Some-unborn.is old.says))
          (λ f q. unborn_whichever g.B.Body.shows new.body child.standing.number new.standing.number child.places old.task.value.places new.places p further.0
          c.join.ensures.body c.join.ensures.number (c.is_legal.ensures.legal c.args.place.at.number) further.1 further.2
          c.join.ensures.here c.join.ensures.others (f q));
    }

pub invariant_of-self-2 : goal.invariant_of-self-2
invariant_of-self-2 g c =
    let old = c.args.self.now in
    let child = c.deref_mut.result.now in
    let new = c.join.new.self in
    let p = spot c.args.place.at c.args.place.me c.args.place.seen.items in
    let further = c.requires.further in record {
      newborn = subst (λ a. ∥ a ≡ Some Started ∥₁) (sym c.join.ensures.answer)
          (subst (λ t. ∥ t.answer ≡ Some Started ∥₁) (sym c.deref_mut.ensures.value)
          (subst (λ o. ∥ IfSome o (λ x. x.value.answer ≡ Some Started) ∥₁) c.in-Some-unborn.is old.newborn));
      says = ∥∥₁_map (subst (λ t. ∥ (g.J.Supposing.supposed → IsUnborn g.B.Body.shows t.body t.standing.number t.places old.task.value.places) ∥₁)
          (sym c.deref_mut.ensures.value) (subst (λ o. ∥ (g.J.Supposing.supposed → IfSome o (λ x.
          IsUnborn g.B.Body.shows x.value.body x.value.standing.number x.value.places old.task.value.places)) ∥₁) c.in-Some-unborn.is old.says))
          (λ f q. unborn_parents g.B.Body.shows new.standing.number new.places old.task.value.places c.note_registration.new.self.places
          (c.note_registration.ensures.places ∙ ap (λ t. t.places) c.deref_mut-2.ensures.value)
          (unborn_whichever g.B.Body.shows new.body child.standing.number new.standing.number child.places old.task.value.places new.places p further.0
          c.join.ensures.body c.join.ensures.number (c.is_legal.ensures.legal c.args.place.at.number) further.1 further.2
          c.join.ensures.here c.join.ensures.others (f q)));
    }
