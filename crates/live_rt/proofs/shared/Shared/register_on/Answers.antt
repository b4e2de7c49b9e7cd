use Rattle.std.proofs.Common.{◌≡◌, List, Some, ap, subst, sym, ◌∙◌}
use Rattle.std.specs.Prelude.{IfSome}
use Rattle.told_history.specs.Stories.{GoesOn}
use Rattle.live_tables.specs.declared.slot.At.{At}
use Rattle.live_tables.specs.Slots.{SlotSight, told_of}
use Rattle.tasks_in_flight.specs.Heard.{IsOwn}
use Rattle.live_rt.specs.inner.Places.{Spot, spot, story_of, in_slot, IsFurther}
use Rattle.live_rt.specs.inner.Says.{IsUnborn}
use Rattle.live_rt.proofs.Held.{at_slot, is_further, registered_own, items_go_on}
use Rattle.live_rt.proofs.shared.Shared.register_on.Goals as goal

pub invariant_of-item : goal.invariant_of-item
invariant_of-item g c =
    let item = c.args.item.now in record {
      newborn = item.newborn;
      says = subst (λ (ps : List Spot). ∥ (g.J.Supposing.supposed → IfSome item.unborn (λ x.
          IsUnborn g.B.Body.shows x.value.body x.value.standing.number x.value.places ps)) ∥₁)
          (sym (c.held.ensures.places ∙ ap (λ t. t.places) c.deref_mut.ensures.value)) item.says;
    }

pub note_registration-requires : goal.note_registration-requires
note_registration-requires g c =
    let place = c.in_ok-place.place in
    let p = spot place.at place.me place.seen.items in
    let places = c.held.new.task.places in
    let there = ap (λ ps. in_slot c.args.pair.phaser ps) c.held.ensures.places ∙ c.in_ok-place.ensures.place in
    let here : (x : Spot) × (in_slot place.at.slot places ≡ Some x) × GoesOn (story_of x) (told_of place.at.number c.register.new.me.items) =
    (p, at_slot c.args.pair.phaser places p there, c.register.ensures.others place.at.number) in record {
      further = subst (λ (a : At). (x : Spot) × (in_slot a.slot places ≡ Some x) × GoesOn (story_of x) (told_of a.number c.new.result.seen.items)) (sym c.new.ensures.0)
          (subst (λ (s : SlotSight). (x : Spot) × (in_slot place.at.slot places ≡ Some x) × GoesOn (story_of x) (told_of place.at.number s.items))
          (sym (c.new.ensures.2 ∙ c.again-seen.ensures.0)) here);
    }

pub registered-requires-clause-further : goal.registered-requires-clause-further
registered-requires-clause-further g c =
    let place = c.in_ok-place.place in
    let p = spot place.at place.me place.seen.items in
    let now = c.deref_mut-2.result.now in
    let same : now.places ≡ c.held.new.task.places = ap (λ t. t.places) c.deref_mut-2.ensures.value ∙ c.note_registration.ensures.places in
    let there = ap (λ ps. in_slot c.args.pair.phaser ps) (same ∙ c.held.ensures.places) ∙ c.in_ok-place.ensures.place in
    subst (λ (s : SlotSight). IsFurther (spot place.at place.me s.items) now.places) (sym c.again-seen.ensures.1)
    (is_further c.args.pair.phaser now.places p c.register.new.me.items there (c.register.ensures.others place.at.number))

pub registered-requires-clause-own : goal.registered-requires-clause-own
registered-requires-clause-own g c =
    let place = c.in_ok-place.place in
    subst (λ (s : SlotSight). IsOwn place.me (told_of place.at.number s.items).past) (sym c.again-seen.ensures.1)
    (registered_own c.in_ok-child.child place.me c.args.pair.mode (told_of place.at.number place.seen.items) (told_of place.at.number c.register.new.me.items)
    (rw c.in_ok-child.was at c.register.ensures.told))

pub invariant_of-item-2 : goal.invariant_of-item-2
invariant_of-item-2 g c =
    let item = c.note_registration.new.self in
    let now = c.deref_mut-2.result.now in record {
      newborn = item.newborn;
      says = items_go_on g.B.Body.shows g.J.Supposing.supposed item.unborn (λ x. x.value.body) (λ x. x.value.standing.number) (λ x. x.value.places)
          now.places c.registered.new.self.places c.registered.ensures.goes
          (subst (λ (ps : List Spot). ∥ (g.J.Supposing.supposed → IfSome item.unborn (λ x.
          IsUnborn g.B.Body.shows x.value.body x.value.standing.number x.value.places ps)) ∥₁)
          (sym (ap (λ t. t.places) c.deref_mut-2.ensures.value)) item.says);
    }
