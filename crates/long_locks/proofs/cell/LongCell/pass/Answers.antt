use Rattle.std.proofs.Common.{ℕ, ◌<◌, ◌&&◌, not, length, List, Result, ap, sym, ◌∙◌, arith}
use Rattle.phase_modes.specs.declared.refusal.Refusal.{Refusal}
use Rattle.phase_model.specs.declared.call.Call.TheVariants.{Pass as pass}
use Rattle.phase_model.specs.declared.answer.Passing.{Passing}
use Rattle.phaser_core.specs.declared.parked.Parked.{Parked}
use Rattle.phaser_core.specs.declared.parked.ParkedCall.TheVariants.{Pass as ToPass}
use Rattle.phaser_core.specs.Parking.{is_parked, locked_pass, parking, has_to_wait, answered, answered_is}
use Rattle.phaser_core.specs.Firsts.{is_first_held, has_gone_on}
use Rattle.phaser_core.proofs.Freeing.{pass_frees_no_signaller}
use Rattle.phaser_core.proofs.Parks.{all_waiting, once_waiting}
use Rattle.phaser_core.proofs.PassParks.{pass_waits, kept_where_same, place_where_same, parking_same, pass_same, parking_waits, parking_once}
use Rattle.phaser_core.proofs.Steps.{none_where_unchanged, settled, pass_leaves}
use Rattle.long_locks.proofs.cell.LongCell.pass.Goals as goal

pub release_if-requires-clause-nobody : goal.release_if-requires-clause-nobody
release_if-requires-clause-nobody g c = λ n.
    let cell = c.args.self.now in
    let s = cell.state.story in
    let t = c.args.task in
    let is = c.pass-answer.ensures.history in
    let went = ap (λ (a : Result (Passing ℕ) Refusal). has_gone_on a) (sym c.pass-answer.ensures.reply) ∙ sym c.has_gone_on-gone_on.ensures in
    pass_frees_no_signaller s _ cell.parked.items t c.has_gone_on-gone_on.result cell.kept is
    (λ m. is ∙ pass_leaves s t (went ∙ m))
    (ap (λ b. b && c.has_gone_on-gone_on.result && not (is_first_held c.pass-answer.new.self.story cell.parked.items)) (sym c.is_bounded-bounded.ensures) ∙ (sym c.may_come_near-is_near.ensures ∙ n))

pub settle_pass-requires-clause-place : goal.settle_pass-requires-clause-place
settle_pass-requires-clause-place g c = λ a n.
    let cell = c.args.self.now in
    let s = cell.state.story in
    let p : Parked g.row.T.Denot = record { task = c.args.task; call = ToPass; item = c.args.item } in
    let w = pass_waits s c.pass-answer.new.self.story c.args.task c.pass-answer.ensures.history (ap (λ (r : Result (Passing ℕ) Refusal). has_to_wait r) (sym c.pass-answer.ensures.reply ∙ a)) in
    let few : length c.release_if.new.parked.items < 256 = place_where_same s _ p cell.parked.items _ cell.kept w.0 w.1 (kept_where_same s _ cell.parked.items _ cell.kept w.0 c.release_if.ensures.parked) n in
    omega (arith, few)

pub invariant_of-self : goal.invariant_of-self
invariant_of-self g c =
    let cell = c.args.self.now in
    let s = cell.state.story in
    let s' = c.pass-answer.new.self.story in
    let t = c.args.task in
    let p : Parked g.row.T.Denot = record { task = t; call = ToPass; item = c.args.item } in
    let is = c.pass-answer.ensures.history in
    let held = ap (λ (a : Result (Passing ℕ) Refusal). has_to_wait a) (sym c.pass-answer.ensures.reply) in
    let left = c.release_if.ensures.parked in
    record {
      kept = settled s _ cell.parked.items _ (pass t) cell.kept is
          (parking_waits s' (has_to_wait c.pass-answer.result) p c.release_if.new.parked.items _ (λ w. (pass_waits s s' t is (held ∙ w)).1) (all_waiting s' cell.parked.items _ left) c.settle_pass.ensures.parked)
          (parking_once (has_to_wait c.pass-answer.result) p c.release_if.new.parked.items _ (once_waiting s' cell.parked.items _ cell.kept.once left) c.settle_pass.ensures.parked);
      seats = c.settle_pass.ensures.seats;
      seated = c.settle_pass.ensures.seated;
    }

pub returns-clause-answer : goal.returns-clause-answer
returns-clause-answer g c =
    let cell = c.args.self.now in
    let s = cell.state.story in
    let t = c.args.task in
    let held = ap (λ (a : Result (Passing ℕ) Refusal). has_to_wait a) (sym c.pass-answer.ensures.reply) in
    c.settle_pass.ensures.answer
    ∙ (pass_same c.pass-answer.result t c.args.item cell.parked.items c.release_if.new.parked.items
    (λ w. kept_where_same s _ cell.parked.items _ cell.kept (pass_waits s _ t c.pass-answer.ensures.history (held ∙ w)).0 c.release_if.ensures.parked)
    ∙ ap (λ (a : Result (Passing ℕ) Refusal). locked_pass a (is_parked t cell.parked.items) c.args.item) (c.pass-answer.ensures.reply ∙ answered_is s t))

pub returns-clause-parked : goal.returns-clause-parked
returns-clause-parked g c =
    let cell = c.args.self.now in
    let s = cell.state.story in
    let t = c.args.task in
    let p : Parked g.row.T.Denot = record { task = t; call = ToPass; item = c.args.item } in
    let held = ap (λ (a : Result (Passing ℕ) Refusal). has_to_wait a) (sym c.pass-answer.ensures.reply) in
    c.settle_pass.ensures.parked
    ∙ (parking_same (has_to_wait c.pass-answer.result) p cell.parked.items c.release_if.new.parked.items
    (λ w. kept_where_same s _ cell.parked.items _ cell.kept (pass_waits s _ t c.pass-answer.ensures.history (held ∙ w)).0 c.release_if.ensures.parked)
    ∙ (ap (λ (a : Result (Passing ℕ) Refusal). parking (has_to_wait a) (is_parked t cell.parked.items) p c.release_if.new.parked.items) (c.pass-answer.ensures.reply ∙ answered_is s t)
    ∙ ap (λ (l : List (Parked g.row.T.Denot)). parking (has_to_wait (answered s t)) (is_parked t cell.parked.items) p l) c.release_if.ensures.parked))

pub returns-clause-nobody : goal.returns-clause-nobody
returns-clause-nobody g c = λ n.
    let cell = c.args.self.now in
    let s = cell.state.story in
    let t = c.args.task in
    let went = ap (λ (a : Result (Passing ℕ) Refusal). has_gone_on a) (sym c.pass-answer.ensures.reply) in
    none_where_unchanged s _ cell.parked.items _ cell.kept
    (c.pass-answer.ensures.history ∙ pass_leaves s t (went ∙ (sym c.settle_pass.ensures.goes_on ∙ n)))
    c.release_if.ensures.out
