use Rattle.std.proofs.Common.{ap, sym, ◌∙◌}
use Rattle.phase_model.specs.declared.call.Call.TheVariants.{Signal as signal}
use Rattle.phase_model.specs.Replies.{reply}
use Rattle.phase_model.specs.Answers.{signal_result}
use Rattle.phaser_core.specs.Parking.{is_parked, locked_signal, signal_answered_is}
use Rattle.long_locks.specs.Told.{IsSignalAnswer}
use Rattle.long_locks.proofs.Adds.{signal_adds}
use Rattle.live_tables.specs.Slots.{noted, IsHere}
use Rattle.live_tables.proofs.Kept.{here_after, receipt}
use Rattle.live_tables.proofs.Projects.{tells_on, goes_by}
use Rattle.live_tables.proofs.resident.Resident.signal.Goals as goal

pub invariant_of-self : goal.invariant_of-self
invariant_of-self g c =
    let cell = c.args.self.now in
    let s = cell.cell.state.story in
    let t = c.args.task in
    let is : IsSignalAnswer c.args.item (signal_result (reply s (signal t c.args.proposed))) c.signal-answer.result = (is_parked t cell.cell.parked.items, c.signal-answer.ensures.answer ∙ ap (λ a. locked_signal a (is_parked t cell.cell.parked.items) c.args.item) (sym (signal_answered_is s t c.args.proposed))) in
    let same = c.begins.ensures.same in
    let before : IsHere cell.number cell.whole.items s = record { told = cell.told; made = cell.made; legal = cell.legal; later = cell.later; gone = cell.gone } in
    let now = c.note.ensures.items ∙ ap (λ w. noted cell.number c.terms-terms.result c.signal_event-event.result w.items) same in
    let here = here_after cell.number c.terms-terms.result c.signal_event-event.result cell.whole.items s c.signal-answer.new.self.state.story (reply s (signal t c.args.proposed)) before c.signal-answer.ensures.history
    (signal_adds s t c.args.proposed c.args.item c.signal-answer.result c.signal_event-event.result is c.signal_event-event.ensures) c.signal-answer.new.self.kept.legal in
    record {
      named = c.note.ensures.name ∙ (ap (λ w. w.name) same ∙ cell.named);
      told = rw now here.told;
      made = rw now here.made;
      legal = rw now here.legal;
      later = rw now here.later;
      gone = rw now here.gone;
    }

pub returns-clause-told : goal.returns-clause-told
returns-clause-told g c =
    let cell = c.args.self.now in
    let s = cell.cell.state.story in
    let t = c.args.task in
    let is : IsSignalAnswer c.args.item (signal_result (reply s (signal t c.args.proposed))) c.signal-answer.result = (is_parked t cell.cell.parked.items, c.signal-answer.ensures.answer ∙ ap (λ a. locked_signal a (is_parked t cell.cell.parked.items) c.args.item) (sym (signal_answered_is s t c.args.proposed))) in
    receipt (λ _ r. IsSignalAnswer c.args.item (signal_result r) c.signal-answer.result) (signal t c.args.proposed) cell.number _ cell.whole.items _ s c.signal-answer.new.self.state.story cell.told (tells_on _ cell.whole.items c.begins.ensures.begins cell.number) is c.signal-answer.ensures.history c.front.ensures.here

pub returns-clause-others : goal.returns-clause-others
returns-clause-others g c = λ k.
    let cell = c.args.self.now in
    goes_by cell.number k c.terms-terms.result c.signal_event-event.result c.args.me.now.items cell.whole.items c.front.result.items c.begins.ensures.begins
    (c.front.ensures.all ∙ (c.note.ensures.items ∙ ap (λ w. noted cell.number c.terms-terms.result c.signal_event-event.result w.items) c.begins.ensures.same))
