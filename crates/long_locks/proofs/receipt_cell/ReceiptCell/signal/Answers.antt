use Rattle.std.proofs.Common.{map, refl, ap, sym, ◌∙◌}
use Rattle.phase_model.specs.declared.call.Call.TheVariants.{Signal as signal}
use Rattle.phase_model.specs.Replies.{reply}
use Rattle.phase_model.specs.Answers.{signal_result}
use Rattle.phaser_core.specs.Parking.{is_parked, locked_signal, signal_answered_is}
use Rattle.told_history.specs.Wide.{event_of}
use Rattle.long_locks.specs.Events.{with_one}
use Rattle.long_locks.specs.Told.{IsSignalAnswer}
use Rattle.long_locks.proofs.Adds.{signal_adds}
use Rattle.long_locks.proofs.Kept.{kept, receipt}
use Rattle.long_locks.proofs.receipt_cell.ReceiptCell.signal.Goals as goal

pub invariant_of-self : goal.invariant_of-self
invariant_of-self g c =
    let cell = c.args.self.now in
    let s = cell.cell.state.story in
    let t = c.args.task in
    let is : IsSignalAnswer c.args.item (signal_result (reply s (signal t c.args.number))) c.signal-answer.result = (is_parked t cell.cell.parked.items, c.signal-answer.ensures.answer ∙ ap (λ a. locked_signal a (is_parked t cell.cell.parked.items) c.args.item) (sym (signal_answered_is s t c.args.number))) in
    let same = c.begins.ensures.same in
    record {
      named = c.note.ensures.name ∙ (ap (λ w. w.name) same ∙ cell.named);
      told = kept g.J.Naming.terms (map event_of cell.whole.items) (map event_of c.note.new.log.items) s c.signal-answer.new.self.state.story (reply s (signal t c.args.number)) c.signal_event.result
          cell.told c.signal-answer.ensures.history (c.note.ensures.events ∙ ap (λ w. with_one c.signal_event.result (map event_of w.items)) same)
          (signal_adds s t c.args.number c.args.item c.signal-answer.result c.signal_event.result is c.signal_event.ensures);
    }

pub returns-clause-told : goal.returns-clause-told
returns-clause-told g c =
    let cell = c.args.self.now in
    let s = cell.cell.state.story in
    let t = c.args.task in
    let is : IsSignalAnswer c.args.item (signal_result (reply s (signal t c.args.number))) c.signal-answer.result = (is_parked t cell.cell.parked.items, c.signal-answer.ensures.answer ∙ ap (λ a. locked_signal a (is_parked t cell.cell.parked.items) c.args.item) (sym (signal_answered_is s t c.args.number))) in
    receipt (λ _ r. IsSignalAnswer c.args.item (signal_result r) c.signal-answer.result) g.J.Naming.terms (signal t c.args.number) _ (map event_of cell.whole.items) _ s c.signal-answer.new.self.state.story cell.told c.begins.ensures.begins is c.signal-answer.ensures.history c.front.ensures.all

pub returns-clause-added : goal.returns-clause-added
returns-clause-added g c =
    let cell = c.args.self.now in
    let s = cell.cell.state.story in
    let t = c.args.task in
    let is : IsSignalAnswer c.args.item (signal_result (reply s (signal t c.args.number))) c.signal-answer.result = (is_parked t cell.cell.parked.items, c.signal-answer.ensures.answer ∙ ap (λ a. locked_signal a (is_parked t cell.cell.parked.items) c.args.item) (sym (signal_answered_is s t c.args.number))) in
    ap (λ w. w.state.story.past) c.front.ensures.same ∙ (ap (λ w. w.past) c.signal-answer.ensures.history ∙ signal_adds s t c.args.number c.args.item c.signal-answer.result _ is refl)
