use Rattle.std.proofs.Common.{◌<◌, ◌&&◌, is_some, length, List, Result, ap, sym, ◌∙◌, arith}
use Rattle.std.proofs.lemmas.Bool.{false≢true}
use Rattle.phase_modes.specs.declared.refusal.Refusal.{Refusal}
use Rattle.phase_model.specs.declared.call.Call.TheVariants.{Signal as signal}
use Rattle.phase_model.specs.Replies.{reply}
use Rattle.phase_model.specs.declared.answer.Signalling.{Signalling}
use Rattle.phaser_core.specs.declared.parked.Parked.{Parked}
use Rattle.phaser_core.specs.declared.parked.ParkedCall.TheVariants.{Signal as ToSignal}
use Rattle.phaser_core.specs.Parking.{is_parked, locked_signal, parking, is_held, signal_answered, signal_answered_is}
use Rattle.phaser_core.specs.Firsts.{is_phase_open, is_made}
use Rattle.phaser_core.proofs.Freeing.{neither_leaves, signal_frees_nobody}
use Rattle.phaser_core.proofs.Parks.{all_waiting, once_waiting}
use Rattle.phaser_core.proofs.PassParks.{signal_waits, kept_where_same, place_where_same, parking_same, signal_same, parking_waits, parking_once}
use Rattle.phaser_core.proofs.Steps.{none_where_unchanged, settled, signal_leaves}
use Rattle.long_locks.proofs.cell.LongCell.signal.Goals as goal

pub release_if-requires-clause-nobody : goal.release_if-requires-clause-nobody
release_if-requires-clause-nobody g c = λ n.
    let cell = c.args.self.now in
    let s = cell.state.story in
    let s' = c.signal-answer.new.self.story in
    let ps = cell.parked.items in
    signal_frees_nobody s s' ps c.args.task c.args.number cell.kept c.signal-answer.ensures.history
    (neither_leaves (is_some c.args.number && is_some s.terms.bound) (is_phase_open s ps) (is_phase_open s' ps) (λ own. false≢true (sym n ∙ c.may_leave.ensures.otherwise (c.may_part_proposers-others.ensures ∙ own))) (λ was now. false≢true (sym n ∙ c.may_leave.ensures.closed (cc) (cc))))

pub settle_signal-requires-clause-place : goal.settle_signal-requires-clause-place
settle_signal-requires-clause-place g c = λ a n.
    let cell = c.args.self.now in
    let s = cell.state.story in
    let p : Parked g.row.T.Denot = record { task = c.args.task; call = ToSignal c.args.number; item = c.args.item } in
    let w = signal_waits s c.signal-answer.new.self.story c.args.task c.args.number c.signal-answer.ensures.history (ap (λ (r : Result Signalling Refusal). is_held r) (sym c.signal-answer.ensures.reply ∙ a)) in
    let few : length c.release_if.new.parked.items < 256 = place_where_same s _ p cell.parked.items _ cell.kept w.0 w.1 (kept_where_same s _ cell.parked.items _ cell.kept w.0 c.release_if.ensures.parked) n in
    omega (arith, few)

pub invariant_of-self : goal.invariant_of-self
invariant_of-self g c =
    let cell = c.args.self.now in
    let s = cell.state.story in
    let s' = c.signal-answer.new.self.story in
    let t = c.args.task in
    let x = c.args.number in
    let p : Parked g.row.T.Denot = record { task = t; call = ToSignal x; item = c.args.item } in
    let is = c.signal-answer.ensures.history in
    let held = ap (λ (a : Result Signalling Refusal). is_held a) (sym c.signal-answer.ensures.reply) in
    let left = c.release_if.ensures.parked in
    record {
      kept = settled s _ cell.parked.items _ (signal t x) cell.kept is
          (parking_waits s' (is_held c.signal-answer.result) p c.release_if.new.parked.items _ (λ w. (signal_waits s s' t x is (held ∙ w)).1) (all_waiting s' cell.parked.items _ left) c.settle_signal.ensures.parked)
          (parking_once (is_held c.signal-answer.result) p c.release_if.new.parked.items _ (once_waiting s' cell.parked.items _ cell.kept.once left) c.settle_signal.ensures.parked);
      seats = c.settle_signal.ensures.seats;
      seated = c.settle_signal.ensures.seated;
    }

pub returns-clause-answer : goal.returns-clause-answer
returns-clause-answer g c =
    let cell = c.args.self.now in
    let s = cell.state.story in
    let t = c.args.task in
    let held = ap (λ (a : Result Signalling Refusal). is_held a) (sym c.signal-answer.ensures.reply) in
    c.settle_signal.ensures.answer
    ∙ (signal_same c.signal-answer.result t c.args.item cell.parked.items c.release_if.new.parked.items
    (λ w. kept_where_same s _ cell.parked.items _ cell.kept (signal_waits s _ t c.args.number c.signal-answer.ensures.history (held ∙ w)).0 c.release_if.ensures.parked)
    ∙ ap (λ (a : Result Signalling Refusal). locked_signal a (is_parked t cell.parked.items) c.args.item) (c.signal-answer.ensures.reply ∙ signal_answered_is s t c.args.number))

pub returns-clause-parked : goal.returns-clause-parked
returns-clause-parked g c =
    let cell = c.args.self.now in
    let s = cell.state.story in
    let t = c.args.task in
    let p : Parked g.row.T.Denot = record { task = t; call = ToSignal c.args.number; item = c.args.item } in
    let held = ap (λ (a : Result Signalling Refusal). is_held a) (sym c.signal-answer.ensures.reply) in
    c.settle_signal.ensures.parked
    ∙ (parking_same (is_held c.signal-answer.result) p cell.parked.items c.release_if.new.parked.items
    (λ w. kept_where_same s _ cell.parked.items _ cell.kept (signal_waits s _ t c.args.number c.signal-answer.ensures.history (held ∙ w)).0 c.release_if.ensures.parked)
    ∙ (ap (λ (a : Result Signalling Refusal). parking (is_held a) (is_parked t cell.parked.items) p c.release_if.new.parked.items) (c.signal-answer.ensures.reply ∙ signal_answered_is s t c.args.number)
    ∙ ap (λ (l : List (Parked g.row.T.Denot)). parking (is_held (signal_answered s t c.args.number)) (is_parked t cell.parked.items) p l) c.release_if.ensures.parked))

pub returns-clause-nobody : goal.returns-clause-nobody
returns-clause-nobody g c = λ n.
    let cell = c.args.self.now in
    let s = cell.state.story in
    let made = ap (λ (a : Result Signalling Refusal). is_made a) (sym c.signal-answer.ensures.reply) in
    none_where_unchanged s _ cell.parked.items _ cell.kept
    (c.signal-answer.ensures.history ∙ signal_leaves s (reply s (signal c.args.task c.args.number)) (made ∙ (sym c.settle_signal.ensures.signalled ∙ n)))
    c.release_if.ensures.out
