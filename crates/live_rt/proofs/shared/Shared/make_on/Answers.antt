use Rattle.std.proofs.Common.{ℕ, ◌≡◌, refl, ap, subst, sym, ◌∙◌}
use Rattle.tasks_in_flight.specs.Heard.{HasMade}
use Rattle.live_tables.specs.declared.slot.At.{At}
use Rattle.live_tables.specs.Slots.{SlotSight, told_of}
use Rattle.world_model.specs.declared.event.Step.TheVariants as steps
use Rattle.world_model.specs.declared.event.WorldEvent.TheVariants.{Phaser}
use Rattle.task_standing.specs.Noted.{noted}
use Rattle.tasks_in_flight.specs.inner.GoingOn.{HasActed, any_step}
use Rattle.tasks_in_flight.proofs.GoingOn.{if_ok}
use Rattle.live_rt.proofs.shared.Shared.make_on.Goals as goal

pub made-requires : goal.made-requires
made-requires g c =
    let it = c.in_ok-at in
    let new = c.new.result in
    let mode = c.args.mode in
    let terms = c.args.terms.now in
    let here : HasMade it.me mode terms (told_of it.at.number it.seen.items) =
    (ap (λ s. s.past) it.ensures.made, ap (λ s. s.terms) it.ensures.made ∙ ap (λ b. record terms { bound = b }) (sym c.in-Some.is)) in record {
      asked = (
        terms,
        subst (λ (s : SlotSight). HasMade new.me mode terms (told_of new.at.number s.items)) (sym c.new.ensures.2)
            (subst (λ (m : ℕ). HasMade m mode terms (told_of new.at.number it.seen.items)) (sym c.new.ensures.1)
            (subst (λ (a : At). HasMade it.me mode terms (told_of a.number it.seen.items)) (sym c.new.ensures.0) here)),
        c.requires.says,
      );
    }

pub returns-clause-acted : goal.returns-clause-acted
returns-clause-acted g c =
    let old = c.args.task.now.standing in
    let new = c.made.new.self.standing in
    let e = Phaser c.new.result.at.slot (steps.Make old.number c.args.mode c.args.terms.now) in
    if_ok (new ≡ noted e old) (HasActed any_step old new) (λ is. (e, refl, tt, is)) c.made.result c.made.ensures.made
