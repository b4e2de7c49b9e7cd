use Rattle.std.proofs.Common.{ℕ, ap, subst, sym, ◌∙◌}
use Rattle.std.proofs.Math.Logic.{∥∥₁_map}
use Rattle.std.specs.Prelude.{ℤ}
use Rattle.phase_model.specs.declared.op.Look.{Look}
use Rattle.long_locks.specs.Told.{HasLooked}
use Rattle.live_tables.specs.Slots.{told_of}
use Rattle.tasks_in_flight.specs.Heard.{look}
use Rattle.live_rt.proofs.About.{asks_kept}
use Rattle.live_rt.specs.inner.Places.{spot, in_slot}
use Rattle.live_rt.specs.inner.Says.{Asks}
use Rattle.live_rt.proofs.Held.{is_further}
use Rattle.live_rt.proofs.shared.Shared.look_on.Goals as goal

pub looked-requires-clause-further : goal.looked-requires-clause-further
looked-requires-clause-further g c =
    let place = c.in_ok-place.place in
    let p = spot place.at place.me place.seen.items in
    let new = c.held.new.task in
    let there = ap (λ ps. in_slot c.args.phaser ps) c.held.ensures.places ∙ c.in_ok-place.ensures.place in
    is_further c.args.phaser new.places p c.look.new.me.items there (c.look.ensures.others place.at.number)

pub looked-requires-clause-asked : goal.looked-requires-clause-asked
looked-requires-clause-asked g c =
    let place = c.in_ok-place.place in
    let p = spot place.at place.me place.seen.items in
    let new = c.held.new.task in
    let there = ap (λ ps. in_slot c.args.phaser ps) c.held.ensures.places ∙ c.in_ok-place.ensures.place in
    let old = c.args.task.now in
    let a = c.args.accumulator in
    let now = told_of place.at.number c.look.new.me.items in (
      a,
      subst (λ (x : Look ℤ). HasLooked now.terms.ops place.me a now.past x) (sym c.in_ok-seen-2.ensures) c.in_ok-seen.ensures.seen,
      ∥∥₁_map c.requires.says (λ f q. subst (λ (m : ℕ). Asks g.B.Body.shows new.body (look m a) new.places new.standing) (sym c.in_ok-place.ensures.slot.0)
          (asks_kept g.B.Body.shows old.body new.body (look c.args.phaser a) old.places new.places old.standing new.standing
          c.held.ensures.body c.held.ensures.places c.held.ensures.standing (f q))),
    )
