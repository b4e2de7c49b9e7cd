use Rattle.std.proofs.Common.{◌≡◌, map, refl, ap, ◌∙◌}
use Rattle.phase_model.specs.declared.call.Call.TheVariants.{SingleDone as single_done}
use Rattle.phase_model.specs.Replies.{reply, done_result}
use Rattle.told_history.specs.Wide.{event_of}
use Rattle.long_locks.specs.Events.{with_one}
use Rattle.long_locks.proofs.Adds.{single_done_adds}
use Rattle.long_locks.proofs.Kept.{kept, receipt}
use Rattle.long_locks.proofs.receipt_cell.ReceiptCell.single_done.Goals as goal

pub invariant_of-self : goal.invariant_of-self
invariant_of-self g c =
    let cell = c.args.self.now in
    let s = cell.cell.state.story in
    let t = c.args.task in
    let is = c.single_done-answer.ensures.reply in
    let same = c.begins.ensures.same in
    record {
      named = c.note.ensures.name ∙ (ap (λ w. w.name) same ∙ cell.named);
      told = kept g.J.Naming.terms (map event_of cell.whole.items) (map event_of c.note.new.log.items) s c.single_done-answer.new.self.state.story (reply s (single_done t)) c.done_event.result
          cell.told c.single_done-answer.ensures.history (c.note.ensures.events ∙ ap (λ w. with_one c.done_event.result (map event_of w.items)) same)
          (single_done_adds s t c.single_done-answer.result c.done_event.result is c.done_event.ensures);
    }

pub returns-clause-told : goal.returns-clause-told
returns-clause-told g c =
    let cell = c.args.self.now in
    let s = cell.cell.state.story in
    let t = c.args.task in
    let is = c.single_done-answer.ensures.reply in
    receipt (λ _ r. c.single_done-answer.result ≡ done_result r) g.J.Naming.terms (single_done t) _ (map event_of cell.whole.items) _ s c.single_done-answer.new.self.state.story cell.told c.begins.ensures.begins is c.single_done-answer.ensures.history c.front.ensures.all

pub returns-clause-added : goal.returns-clause-added
returns-clause-added g c =
    let s = c.args.self.now.cell.state.story in
    ap (λ w. w.state.story.past) c.front.ensures.same ∙ (ap (λ w. w.past) c.single_done-answer.ensures.history ∙ single_done_adds s c.args.task c.single_done-answer.result _ c.single_done-answer.ensures.reply refl)
