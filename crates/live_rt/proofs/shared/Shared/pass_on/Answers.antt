use Rattle.std.proofs.Common.{◌≡◌, List, ap, subst, sym, ◌∙◌}
use Rattle.std.specs.Prelude.{IfSome}
use Rattle.live_tables.specs.Slots.{told_of}
use Rattle.tasks_in_flight.proofs.Heard.{just_passed}
use Rattle.live_rt.specs.inner.Places.{Spot, spot, story_of, in_slot}
use Rattle.live_rt.specs.inner.Says.{IsUnborn}
use Rattle.live_rt.proofs.Held.{at_slot, is_further, items_go_on}
use Rattle.live_rt.proofs.shared.Shared.pass_on.Goals as goal

pub invariant_of-item : goal.invariant_of-item
invariant_of-item g c =
    let item = c.args.item in record {
      newborn = item.newborn;
      says = subst (λ (ps : List Spot). ∥ (g.J.Supposing.supposed → IfSome item.unborn (λ x.
          IsUnborn g.B.Body.shows x.value.body x.value.standing.number x.value.places ps)) ∥₁)
          (sym (c.held.ensures.places ∙ ap (λ t. t.places) c.deref_mut.ensures.value)) item.says;
    }

pub invariant_of-item-2 : goal.invariant_of-item-2
invariant_of-item-2 g c =
    let item = c.args.item in record {
      newborn = item.newborn;
      says = subst (λ (ps : List Spot). ∥ (g.J.Supposing.supposed → IfSome item.unborn (λ x.
          IsUnborn g.B.Body.shows x.value.body x.value.standing.number x.value.places ps)) ∥₁)
          (sym (c.held.ensures.places ∙ ap (λ t. t.places) c.deref_mut.ensures.value)) item.says;
    }

pub passed-requires-clause-further : goal.passed-requires-clause-further
passed-requires-clause-further g c =
    let place = c.in-Ok.place in
    let p = spot place.at place.me place.seen.items in
    let now = c.deref_mut-in-Passed.result.now in
    let back = rw c.in-Passed.is at c.pass-answer.ensures.item in
    let same : now.places ≡ c.deref_mut.result.now.places =
    ap (λ t. t.places) (c.deref_mut-in-Passed.ensures.value ∙ ap (λ i. i.task.value) back) ∙ c.held.ensures.places in
    let there = ap (λ ps. in_slot c.args.phaser ps) same ∙ c.in-Ok.ensures.place in
    is_further c.args.phaser now.places p c.pass-answer.new.me.items there (c.pass-answer.ensures.others place.at.number)

pub passed-requires-clause-own : goal.passed-requires-clause-own
passed-requires-clause-own g c =
    let place = c.in-Ok.place in
    let p = spot place.at place.me place.seen.items in
    let now = c.deref_mut-in-Passed.result.now in
    let back = rw c.in-Passed.is at c.pass-answer.ensures.item in
    let same : now.places ≡ c.deref_mut.result.now.places =
    ap (λ t. t.places) (c.deref_mut-in-Passed.ensures.value ∙ ap (λ i. i.task.value) back) ∙ c.held.ensures.places in
    let there = ap (λ ps. in_slot c.args.phaser ps) same ∙ c.in-Ok.ensures.place in (
      p,
      at_slot c.args.phaser now.places p there,
      just_passed _ c.in-Passed.passed c.in-Passed.phase (story_of p) (told_of place.at.number c.pass-answer.new.me.items) place.me
          (rw c.in-Passed.is at c.pass-answer.ensures.told) (rw c.in-Passed.is at c.pass-answer.ensures.closed),
    )

pub invariant_of-item-in-Passed : goal.invariant_of-item-in-Passed
invariant_of-item-in-Passed g c =
    let item = c.in-Passed.passed in
    let now = c.deref_mut-in-Passed.result.now in record {
      newborn = item.newborn;
      says = items_go_on g.B.Body.shows g.J.Supposing.supposed item.unborn (λ x. x.value.body) (λ x. x.value.standing.number) (λ x. x.value.places)
          now.places c.passed.new.self.places c.passed.ensures.goes
          (subst (λ (ps : List Spot). ∥ (g.J.Supposing.supposed → IfSome item.unborn (λ x.
          IsUnborn g.B.Body.shows x.value.body x.value.standing.number x.value.places ps)) ∥₁)
          (sym (ap (λ t. t.places) c.deref_mut-in-Passed.ensures.value)) item.says);
    }
