use Rattle.std.proofs.Common.{ap, sym, ◌∙◌}
use Rattle.phase_model.specs.declared.call.Call.TheVariants.{Pass as pass}
use Rattle.phase_model.specs.Replies.{reply}
use Rattle.phase_model.specs.Answers.{pass_result}
use Rattle.phaser_core.specs.Parking.{is_parked, locked_pass, answered_is}
use Rattle.long_locks.specs.Told.{IsPassAnswer}
use Rattle.long_locks.proofs.Adds.{pass_adds}
use Rattle.live_tables.proofs.Closes.{pass_closes}
use Rattle.live_tables.specs.Slots.{told_of, noted, IsHere}
use Rattle.live_tables.proofs.Kept.{here_after, receipt}
use Rattle.live_tables.proofs.Projects.{tells_on, goes_by}
use Rattle.live_tables.proofs.resident.Resident.pass.Goals as goal

pub invariant_of-self : goal.invariant_of-self
invariant_of-self g c =
    let cell = c.args.self.now in
    let s = cell.cell.state.story in
    let t = c.args.task in
    let is : IsPassAnswer c.args.item (pass_result s.past (reply s (pass t))) c.pass-answer.result = (is_parked t cell.cell.parked.items, c.pass-answer.ensures.answer ∙ ap (λ a. locked_pass a (is_parked t cell.cell.parked.items) c.args.item) (sym (answered_is s t))) in
    let same = c.begins.ensures.same in
    let before : IsHere cell.number cell.whole.items s = record { told = cell.told; made = cell.made; legal = cell.legal; later = cell.later; gone = cell.gone } in
    let now = c.note.ensures.items ∙ ap (λ w. noted cell.number c.terms-terms.result c.pass_event-event.result w.items) same in
    let here = here_after cell.number c.terms-terms.result c.pass_event-event.result cell.whole.items s c.pass-answer.new.self.state.story (reply s (pass t)) before c.pass-answer.ensures.history
    (pass_adds s t c.args.item c.pass-answer.result c.pass_event-event.result is c.pass_event-event.ensures) c.pass-answer.new.self.kept.legal in
    record {
      named = c.note.ensures.name ∙ (ap (λ w. w.name) same ∙ cell.named);
      told = rw now here.told;
      made = rw now here.made;
      legal = rw now here.legal;
      later = rw now here.later;
      gone = rw now here.gone;
    }

pub returns-clause-told : goal.returns-clause-told
returns-clause-told g c =
    let cell = c.args.self.now in
    let s = cell.cell.state.story in
    let t = c.args.task in
    let is : IsPassAnswer c.args.item (pass_result s.past (reply s (pass t))) c.pass-answer.result = (is_parked t cell.cell.parked.items, c.pass-answer.ensures.answer ∙ ap (λ a. locked_pass a (is_parked t cell.cell.parked.items) c.args.item) (sym (answered_is s t))) in
    receipt (λ h r. IsPassAnswer c.args.item (pass_result h r) c.pass-answer.result) (pass t) cell.number _ cell.whole.items _ s c.pass-answer.new.self.state.story cell.told (tells_on _ cell.whole.items c.begins.ensures.begins cell.number) is c.pass-answer.ensures.history c.front.ensures.here

pub returns-clause-closed : goal.returns-clause-closed
returns-clause-closed g c =
    let cell = c.args.self.now in
    let s = cell.cell.state.story in
    let t = c.args.task in
    let is : IsPassAnswer c.args.item (pass_result s.past (reply s (pass t))) c.pass-answer.result = (is_parked t cell.cell.parked.items, c.pass-answer.ensures.answer ∙ ap (λ a. locked_pass a (is_parked t cell.cell.parked.items) c.args.item) (sym (answered_is s t))) in
    pass_closes (told_of cell.number c.args.me.now.items) (told_of cell.number c.front.result.items) t c.args.item c.pass-answer.result
    (receipt (λ h r. IsPassAnswer c.args.item (pass_result h r) c.pass-answer.result) (pass t) cell.number _ cell.whole.items _ s c.pass-answer.new.self.state.story cell.told (tells_on _ cell.whole.items c.begins.ensures.begins cell.number) is c.pass-answer.ensures.history c.front.ensures.here)
    (c.is_legal.ensures.legal cell.number)

pub returns-clause-others : goal.returns-clause-others
returns-clause-others g c = λ k.
    let cell = c.args.self.now in
    goes_by cell.number k c.terms-terms.result c.pass_event-event.result c.args.me.now.items cell.whole.items c.front.result.items c.begins.ensures.begins
    (c.front.ensures.all ∙ (c.note.ensures.items ∙ ap (λ w. noted cell.number c.terms-terms.result c.pass_event-event.result w.items) c.begins.ensures.same))
