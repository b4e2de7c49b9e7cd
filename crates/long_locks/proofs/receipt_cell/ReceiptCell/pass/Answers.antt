use Rattle.std.proofs.Common.{map, refl, ap, sym, ◌∙◌}
use Rattle.phase_model.specs.declared.call.Call.TheVariants.{Pass as pass}
use Rattle.phase_model.specs.Replies.{reply}
use Rattle.phase_model.specs.Answers.{pass_result}
use Rattle.phaser_core.specs.Parking.{is_parked, locked_pass, answered_is}
use Rattle.told_history.specs.Wide.{event_of}
use Rattle.long_locks.specs.Events.{with_one}
use Rattle.long_locks.specs.Told.{IsPassAnswer}
use Rattle.long_locks.proofs.Adds.{pass_adds}
use Rattle.long_locks.proofs.Kept.{kept, receipt}
use Rattle.long_locks.proofs.Closes.{pass_closes}
use Rattle.long_locks.proofs.receipt_cell.ReceiptCell.pass.Goals as goal

pub invariant_of-self : goal.invariant_of-self
invariant_of-self g c =
    let cell = c.args.self.now in
    let s = cell.cell.state.story in
    let t = c.args.task in
    let is : IsPassAnswer c.args.item (pass_result s.past (reply s (pass t))) c.pass-answer.result = (is_parked t cell.cell.parked.items, c.pass-answer.ensures.answer ∙ ap (λ a. locked_pass a (is_parked t cell.cell.parked.items) c.args.item) (sym (answered_is s t))) in
    let same = c.begins.ensures.same in
    record {
      named = c.note.ensures.name ∙ (ap (λ w. w.name) same ∙ cell.named);
      told = kept g.J.Naming.terms (map event_of cell.whole.items) (map event_of c.note.new.log.items) s c.pass-answer.new.self.state.story (reply s (pass t)) c.pass_event.result
          cell.told c.pass-answer.ensures.history (c.note.ensures.events ∙ ap (λ w. with_one c.pass_event.result (map event_of w.items)) same)
          (pass_adds s t c.args.item c.pass-answer.result c.pass_event.result is c.pass_event.ensures);
    }

pub returns-clause-told : goal.returns-clause-told
returns-clause-told g c =
    let cell = c.args.self.now in
    let s = cell.cell.state.story in
    let t = c.args.task in
    let is : IsPassAnswer c.args.item (pass_result s.past (reply s (pass t))) c.pass-answer.result = (is_parked t cell.cell.parked.items, c.pass-answer.ensures.answer ∙ ap (λ a. locked_pass a (is_parked t cell.cell.parked.items) c.args.item) (sym (answered_is s t))) in
    receipt (λ h r. IsPassAnswer c.args.item (pass_result h r) c.pass-answer.result) g.J.Naming.terms (pass t) _ (map event_of cell.whole.items) _ s c.pass-answer.new.self.state.story cell.told c.begins.ensures.begins is c.pass-answer.ensures.history c.front.ensures.all

pub returns-clause-closed : goal.returns-clause-closed
returns-clause-closed g c =
    let cell = c.args.self.now in
    let s = cell.cell.state.story in
    let t = c.args.task in
    let is : IsPassAnswer c.args.item (pass_result s.past (reply s (pass t))) c.pass-answer.result = (is_parked t cell.cell.parked.items, c.pass-answer.ensures.answer ∙ ap (λ a. locked_pass a (is_parked t cell.cell.parked.items) c.args.item) (sym (answered_is s t))) in
    pass_closes g.J.Naming.terms _ _ t c.args.item c.pass-answer.result
    (receipt (λ h r. IsPassAnswer c.args.item (pass_result h r) c.pass-answer.result) g.J.Naming.terms (pass t) _ (map event_of cell.whole.items) _ s c.pass-answer.new.self.state.story cell.told c.begins.ensures.begins is c.pass-answer.ensures.history c.front.ensures.all)
    c.is_legal.ensures.legal

pub returns-clause-added : goal.returns-clause-added
returns-clause-added g c =
    let cell = c.args.self.now in
    let s = cell.cell.state.story in
    let t = c.args.task in
    let is : IsPassAnswer c.args.item (pass_result s.past (reply s (pass t))) c.pass-answer.result = (is_parked t cell.cell.parked.items, c.pass-answer.ensures.answer ∙ ap (λ a. locked_pass a (is_parked t cell.cell.parked.items) c.args.item) (sym (answered_is s t))) in
    ap (λ w. w.state.story.past) c.front.ensures.same ∙ (ap (λ w. w.past) c.pass-answer.ensures.history ∙ pass_adds s t c.args.item c.pass-answer.result _ is refl)
