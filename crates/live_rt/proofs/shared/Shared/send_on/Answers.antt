use Rattle.std.proofs.Common.{ℕ, ◌≡◌, Ok, w32, ap, subst, sym, ◌∙◌}
use Rattle.std.specs.Prelude.{ℤ}
use Rattle.std.proofs.lemmas.Int.{to_z-of_z}
use Rattle.phase_model.specs.declared.call.Call.TheVariants as calls
use Rattle.phase_model.specs.Replies.{done_result}
use Rattle.told_history.specs.Stories.{IsAnswered}
use Rattle.std.proofs.Math.Logic.{∥∥₁_map}
use Rattle.live_tables.specs.Slots.{told_of}
use Rattle.tasks_in_flight.specs.Heard.{send}
use Rattle.tasks_in_flight.proofs.Heard.{has_sent}
use Rattle.live_rt.proofs.About.{asks_kept}
use Rattle.live_rt.specs.inner.Places.{spot, story_of, in_slot}
use Rattle.live_rt.specs.inner.Says.{Asks}
use Rattle.live_rt.proofs.Held.{at_slot, is_further}
use Rattle.live_rt.proofs.shared.Shared.send_on.Goals as goal

pub sent-requires-clause-further : goal.sent-requires-clause-further
sent-requires-clause-further g c =
    let place = c.in_ok-place.place in
    let p = spot place.at place.me place.seen.items in
    let new = c.held.new.task in
    let there = ap (λ ps. in_slot c.args.phaser ps) c.held.ensures.places ∙ c.in_ok-place.ensures.place in
    is_further c.args.phaser new.places p c.send.new.me.items there (c.send.ensures.others place.at.number)

pub sent-requires-clause-asked : goal.sent-requires-clause-asked
sent-requires-clause-asked g c =
    let place = c.in_ok-place.place in
    let p = spot place.at place.me place.seen.items in
    let new = c.held.new.task in
    let there = ap (λ ps. in_slot c.args.phaser ps) c.held.ensures.places ∙ c.in_ok-place.ensures.place in
    let old = c.args.task.now in
    let a = c.args.accumulator in
    let v = c.args.value in
    let seen = story_of p in
    let now = told_of place.at.number c.send.new.me.items in
    let told : IsAnswered (λ _ r. Ok tt ≡ done_result r) (calls.Send place.me a v) seen now =
    subst (λ (x : _). IsAnswered (λ _ r. x ≡ done_result r) (calls.Send place.me a v) seen now) c.in_ok-send.was
    (subst (λ (z : ℤ). IsAnswered (λ _ r. c.send.result ≡ done_result r) (calls.Send place.me a z) seen now) (to_z-of_z w32 v c.ranges.value) c.send.ensures.told) in (
      a,
      v,
      p,
      at_slot c.args.phaser new.places p there,
      has_sent seen now place.me a v told,
      ∥∥₁_map c.requires.says (λ f q. subst (λ (m : ℕ). Asks g.B.Body.shows new.body (send m a v) new.places new.standing) (sym c.in_ok-place.ensures.slot.0)
          (asks_kept g.B.Body.shows old.body new.body (send c.args.phaser a v) old.places new.places old.standing new.standing
          c.held.ensures.body c.held.ensures.places c.held.ensures.standing (f q))),
    )
