use Rattle.std.proofs.Common.{◌≡◌, map, refl, ap, ◌∙◌}
use Rattle.phase_model.specs.declared.call.Call.TheVariants.{Drop as drop_task}
use Rattle.phase_model.specs.Replies.{reply, done_result}
use Rattle.told_history.specs.Wide.{event_of}
use Rattle.long_locks.specs.Events.{with_one}
use Rattle.long_locks.proofs.Adds.{leave_adds}
use Rattle.long_locks.proofs.Kept.{kept, receipt}
use Rattle.long_locks.proofs.receipt_cell.ReceiptCell.leave.Goals as goal

pub invariant_of-self : goal.invariant_of-self
invariant_of-self g c =
    let cell = c.args.self.now in
    let s = cell.cell.state.story in
    let t = c.args.task in
    let is = c.leave-answer.ensures.reply in
    let same = c.begins.ensures.same in
    record {
      named = c.note.ensures.name ∙ (ap (λ w. w.name) same ∙ cell.named);
      told = kept g.J.Naming.terms (map event_of cell.whole.items) (map event_of c.note.new.log.items) s c.leave-answer.new.self.state.story (reply s (drop_task t)) c.done_event.result
          cell.told c.leave-answer.ensures.history (c.note.ensures.events ∙ ap (λ w. with_one c.done_event.result (map event_of w.items)) same)
          (leave_adds s t c.leave-answer.result c.done_event.result is c.done_event.ensures);
    }

pub returns-clause-told : goal.returns-clause-told
returns-clause-told g c =
    let cell = c.args.self.now in
    let s = cell.cell.state.story in
    let t = c.args.task in
    let is = c.leave-answer.ensures.reply in
    receipt (λ _ r. c.leave-answer.result ≡ done_result r) g.J.Naming.terms (drop_task t) _ (map event_of cell.whole.items) _ s c.leave-answer.new.self.state.story cell.told c.begins.ensures.begins is c.leave-answer.ensures.history c.front.ensures.all

pub returns-clause-added : goal.returns-clause-added
returns-clause-added g c =
    let s = c.args.self.now.cell.state.story in
    ap (λ w. w.state.story.past) c.front.ensures.same ∙ (ap (λ w. w.past) c.leave-answer.ensures.history ∙ leave_adds s c.args.task c.leave-answer.result _ c.leave-answer.ensures.reply refl)
