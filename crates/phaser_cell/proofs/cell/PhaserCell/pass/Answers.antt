use Rattle.std.proofs.Common.{◌<◌, ◌&&◌, not, length, List, Result, ap, sym, ◌∙◌, arith, subst, ℕ}
use Rattle.phase_modes.specs.declared.refusal.Refusal.{Refusal}
use Rattle.phase_model.specs.declared.call.Call.TheVariants.{Pass as pass}
use Rattle.phase_model.specs.declared.history.Event.TheVariants.{Pass}
use Rattle.phase_model.specs.declared.answer.Passing.{Passing}
use Rattle.phaser_core.specs.declared.parked.Parked.{Parked}
use Rattle.phaser_core.specs.declared.parked.ParkedCall.TheVariants.{Pass as ToPass}
use Rattle.phaser_core.specs.Parking.{is_parked, locked_pass, parking, has_to_wait, answered, answered_is}
use Rattle.phaser_core.specs.Firsts.{is_first_held, has_gone_on}
use Rattle.phaser_core.proofs.Freeing.{pass_frees_no_signaller}
use Rattle.phaser_core.proofs.Parks.{all_waiting, once_waiting}
use Rattle.phaser_core.proofs.PassParks.{pass_waits, kept_where_same, place_where_same, parking_same, pass_same, parking_waits, parking_once}
use Rattle.phaser_core.proofs.Steps.{none_where_unchanged}
use Rattle.phaser_cell.proofs.Written.{matches_pass, unadded, kept, ticketed, ticket_fits, settled_of}
use Rattle.phaser_cell.specs.Drawn.{IsDrawn}
use Rattle.phaser_cell.proofs.cell.PhaserCell.pass.Goals as goal

pub release_if-requires-clause-nobody : goal.release_if-requires-clause-nobody
release_if-requires-clause-nobody g c = λ n.
    let cell = c.args.self.now in
    let s = cell.state.story in
    let t = c.args.task in
    let is = c.pass-answer.ensures.history in
    let matches = matches_pass s t c.has_gone_on-gone_on.result (c.has_gone_on-gone_on.ensures ∙ ap (λ (a : Result (Passing ℕ) Refusal). has_gone_on a) c.pass-answer.ensures.reply) in
    pass_frees_no_signaller s _ cell.parked.items t c.has_gone_on-gone_on.result (settled_of cell.state.story cell.book cell.parked.items cell.kept) is
    (λ m. is ∙ unadded s (pass t) c.has_gone_on-gone_on.result (Pass t) matches m)
    (ap (λ b. b && c.has_gone_on-gone_on.result && not (is_first_held c.pass-answer.new.self.story cell.parked.items)) (sym c.is_bounded-bounded.ensures) ∙ (sym c.may_come_near-is_near.ensures ∙ n))

pub post_if-requires-clause-room_for_ticket : goal.post_if-requires-clause-room_for_ticket
post_if-requires-clause-room_for_ticket g c =
    let cell = c.args.self.now in
    let s = cell.state.story in
    let t = c.args.task in
    let matches = matches_pass s t c.has_gone_on-gone_on.result (c.has_gone_on-gone_on.ensures ∙ ap (λ (a : Result (Passing ℕ) Refusal). has_gone_on a) c.pass-answer.ensures.reply) in
    ticket_fits s _ _ (pass t) _ _ cell.ticketed cell.room_for_tickets matches

pub settle_pass-requires-clause-place : goal.settle_pass-requires-clause-place
settle_pass-requires-clause-place g c = λ a n.
    let cell = c.args.self.now in
    let s = cell.state.story in
    let p : Parked g.row.T.Denot = record { task = c.args.task; call = ToPass; item = c.args.item } in
    let w = pass_waits s c.pass-answer.new.self.story c.args.task c.pass-answer.ensures.history (ap (λ (r : Result (Passing ℕ) Refusal). has_to_wait r) (sym c.pass-answer.ensures.reply ∙ a)) in
    let few : length c.release_if.new.parked.items < 256 = place_where_same s _ p cell.parked.items _ (settled_of cell.state.story cell.book cell.parked.items cell.kept) w.0 w.1 (kept_where_same s _ cell.parked.items _ (settled_of cell.state.story cell.book cell.parked.items cell.kept) w.0 c.release_if.ensures.parked) n in
    omega (arith, few)

pub invariant_of-self : goal.invariant_of-self
invariant_of-self g c =
    let cell = c.args.self.now in
    let s = cell.state.story in
    let s' = c.pass-answer.new.self.story in
    let t = c.args.task in
    let p : Parked g.row.T.Denot = record { task = t; call = ToPass; item = c.args.item } in
    let is = c.pass-answer.ensures.history in
    let held = ap (λ (a : Result (Passing ℕ) Refusal). has_to_wait a) (sym c.pass-answer.ensures.reply) in
    let left = c.release_if.ensures.parked in
    let matches = matches_pass s t c.has_gone_on-gone_on.result (c.has_gone_on-gone_on.ensures ∙ ap (λ (a : Result (Passing ℕ) Refusal). has_gone_on a) c.pass-answer.ensures.reply) in
    let drawn = ticketed s _ _ _ _ _ (pass t) _ _ cell.ticketed cell.room_for_tickets matches is c.post_if.ensures.drawn c.post_if.ensures.room_for_tickets in
    record {
      kept = kept s _ cell.book _ cell.parked.items _ (pass t) _ _ cell.kept matches is c.post_if.ensures.book c.post_if.ensures.room
          (parking_waits s' (has_to_wait c.pass-answer.result) p c.release_if.new.parked.items _ (λ w. (pass_waits s s' t is (held ∙ w)).1) (all_waiting s' cell.parked.items _ left) c.settle_pass.ensures.parked)
          (parking_once (has_to_wait c.pass-answer.result) p c.release_if.new.parked.items _ (once_waiting s' cell.parked.items _ cell.kept.once left) c.settle_pass.ensures.parked);
      ticketed = drawn.each;
      room_for_tickets = drawn.fits;
      seats = c.settle_pass.ensures.seats;
      seated = c.settle_pass.ensures.seated;
    }

pub returns-clause-answer : goal.returns-clause-answer
returns-clause-answer g c =
    let cell = c.args.self.now in
    let s = cell.state.story in
    let t = c.args.task in
    let held = ap (λ (a : Result (Passing ℕ) Refusal). has_to_wait a) (sym c.pass-answer.ensures.reply) in
    c.settle_pass.ensures.answer
    ∙ (pass_same c.pass-answer.result t c.args.item cell.parked.items c.release_if.new.parked.items
    (λ w. kept_where_same s _ cell.parked.items _ (settled_of cell.state.story cell.book cell.parked.items cell.kept) (pass_waits s _ t c.pass-answer.ensures.history (held ∙ w)).0 c.release_if.ensures.parked)
    ∙ ap (λ (a : Result (Passing ℕ) Refusal). locked_pass a (is_parked t cell.parked.items) c.args.item) (c.pass-answer.ensures.reply ∙ answered_is s t))

pub returns-clause-parked : goal.returns-clause-parked
returns-clause-parked g c =
    let cell = c.args.self.now in
    let s = cell.state.story in
    let t = c.args.task in
    let p : Parked g.row.T.Denot = record { task = t; call = ToPass; item = c.args.item } in
    let held = ap (λ (a : Result (Passing ℕ) Refusal). has_to_wait a) (sym c.pass-answer.ensures.reply) in
    c.settle_pass.ensures.parked
    ∙ (parking_same (has_to_wait c.pass-answer.result) p cell.parked.items c.release_if.new.parked.items
    (λ w. kept_where_same s _ cell.parked.items _ (settled_of cell.state.story cell.book cell.parked.items cell.kept) (pass_waits s _ t c.pass-answer.ensures.history (held ∙ w)).0 c.release_if.ensures.parked)
    ∙ (ap (λ (a : Result (Passing ℕ) Refusal). parking (has_to_wait a) (is_parked t cell.parked.items) p c.release_if.new.parked.items) (c.pass-answer.ensures.reply ∙ answered_is s t)
    ∙ ap (λ (l : List (Parked g.row.T.Denot)). parking (has_to_wait (answered s t)) (is_parked t cell.parked.items) p l) c.release_if.ensures.parked))

pub returns-clause-nobody : goal.returns-clause-nobody
returns-clause-nobody g c = λ n.
    let cell = c.args.self.now in
    let s = cell.state.story in
    let t = c.args.task in
    let matches = matches_pass s t c.has_gone_on-gone_on.result (c.has_gone_on-gone_on.ensures ∙ ap (λ (a : Result (Passing ℕ) Refusal). has_gone_on a) c.pass-answer.ensures.reply) in
    none_where_unchanged s _ cell.parked.items _ (settled_of cell.state.story cell.book cell.parked.items cell.kept)
    (c.pass-answer.ensures.history ∙ unadded s (pass t) c.has_gone_on-gone_on.result (Pass t) matches (c.has_gone_on-gone_on.ensures ∙ (sym c.settle_pass.ensures.goes_on ∙ n)))
    c.release_if.ensures.out

pub returns-clause-tickets : goal.returns-clause-tickets
returns-clause-tickets g c = subst (λ b. IsDrawn b c.args.self.now.drawn.items c.post_if.new.drawn.items) (c.has_gone_on-gone_on.ensures ∙ sym c.settle_pass.ensures.goes_on) c.post_if.ensures.tickets
