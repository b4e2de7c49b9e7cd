use Rattle.std.proofs.Common.{◌≡◌, map, refl, ap, w32, ◌∙◌}
use Rattle.std.proofs.lemmas.Int.{to_z-of_z}
use Rattle.phase_model.specs.declared.call.Call.TheVariants.{Send as send}
use Rattle.phase_model.specs.Replies.{reply, done_result}
use Rattle.told_history.specs.Wide.{event_of}
use Rattle.long_locks.specs.Events.{with_one}
use Rattle.long_locks.proofs.Adds.{send_adds}
use Rattle.long_locks.proofs.Kept.{kept, receipt}
use Rattle.long_locks.proofs.receipt_cell.ReceiptCell.send.Goals as goal

pub invariant_of-self : goal.invariant_of-self
invariant_of-self g c =
    let cell = c.args.self.now in
    let s = cell.cell.state.story in
    let t = c.args.task in
    let round = to_z-of_z w32 c.args.value c.ranges.value in
    let is = rw round at c.send-answer.ensures.reply in
    let now = rw round at c.send-answer.ensures.history in
    let event = rw round at c.done_event.ensures in
    let same = c.begins.ensures.same in
    record {
      named = c.note.ensures.name ∙ (ap (λ w. w.name) same ∙ cell.named);
      told = kept g.J.Naming.terms (map event_of cell.whole.items) (map event_of c.note.new.log.items) s c.send-answer.new.self.state.story (reply s (send t c.args.accumulator c.args.value)) c.done_event.result
          cell.told now (c.note.ensures.events ∙ ap (λ w. with_one c.done_event.result (map event_of w.items)) same)
          (send_adds s t c.args.accumulator c.args.value c.send-answer.result c.done_event.result is event);
    }

pub returns-clause-told : goal.returns-clause-told
returns-clause-told g c =
    let cell = c.args.self.now in
    let s = cell.cell.state.story in
    let t = c.args.task in
    let round = to_z-of_z w32 c.args.value c.ranges.value in
    let is = rw round at c.send-answer.ensures.reply in
    let now = rw round at c.send-answer.ensures.history in
    receipt (λ _ r. c.send-answer.result ≡ done_result r) g.J.Naming.terms (send t c.args.accumulator c.args.value) _ (map event_of cell.whole.items) _ s c.send-answer.new.self.state.story cell.told c.begins.ensures.begins is now c.front.ensures.all

pub returns-clause-added : goal.returns-clause-added
returns-clause-added g c =
    let s = c.args.self.now.cell.state.story in
    let round = to_z-of_z w32 c.args.value c.ranges.value in
    let is = rw round at c.send-answer.ensures.reply in
    let now = rw round at c.send-answer.ensures.history in
    ap (λ w. w.state.story.past) c.front.ensures.same ∙ (ap (λ w. w.past) now ∙ send_adds s c.args.task c.args.accumulator c.args.value c.send-answer.result _ is refl)
