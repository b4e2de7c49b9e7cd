use Rattle.std.proofs.Common.{◌≡◌, map, refl, ap, ◌∙◌}
use Rattle.phase_model.specs.declared.call.Call.TheVariants.{Look as look}
use Rattle.phase_model.specs.Replies.{reply}
use Rattle.phase_model.specs.Answers.{look_result}
use Rattle.told_history.specs.Wide.{event_of}
use Rattle.long_locks.specs.Events.{with_one}
use Rattle.long_locks.proofs.Adds.{look_adds}
use Rattle.long_locks.proofs.Kept.{kept, receipt}
use Rattle.long_locks.proofs.Looks.{look_shows}
use Rattle.long_locks.proofs.receipt_cell.ReceiptCell.look.Goals as goal

pub invariant_of-self : goal.invariant_of-self
invariant_of-self g c =
    let cell = c.args.self.now in
    let s = cell.cell.state.story in
    let t = c.args.task in
    let is = c.look-answer.ensures.reply in
    let same = c.begins.ensures.same in
    record {
      named = c.note.ensures.name ∙ (ap (λ w. w.name) same ∙ cell.named);
      told = kept g.J.Naming.terms (map event_of cell.whole.items) (map event_of c.note.new.log.items) s c.look-answer.new.self.state.story (reply s (look t c.args.accumulator)) c.look_event.result
          cell.told c.look-answer.ensures.history (c.note.ensures.events ∙ ap (λ w. with_one c.look_event.result (map event_of w.items)) same)
          (look_adds s t c.args.accumulator c.look-answer.result c.look_event.result is c.look_event.ensures);
    }

pub returns-clause-told : goal.returns-clause-told
returns-clause-told g c =
    let cell = c.args.self.now in
    let s = cell.cell.state.story in
    let t = c.args.task in
    let is = c.look-answer.ensures.reply in
    receipt (λ _ r. c.look-answer.result ≡ look_result r) g.J.Naming.terms (look t c.args.accumulator) _ (map event_of cell.whole.items) _ s c.look-answer.new.self.state.story cell.told c.begins.ensures.begins is c.look-answer.ensures.history c.front.ensures.all

pub returns-clause-seen : goal.returns-clause-seen
returns-clause-seen g c =
    let cell = c.args.self.now in
    let s = cell.cell.state.story in
    let t = c.args.task in
    let is = c.look-answer.ensures.reply in
    look_shows g.J.Naming.terms _ _ t c.args.accumulator c.look-answer.result
    (receipt (λ _ r. c.look-answer.result ≡ look_result r) g.J.Naming.terms (look t c.args.accumulator) _ (map event_of cell.whole.items) _ s c.look-answer.new.self.state.story cell.told c.begins.ensures.begins is c.look-answer.ensures.history c.front.ensures.all)
    c.is_legal.ensures.folded

pub returns-clause-added : goal.returns-clause-added
returns-clause-added g c =
    let s = c.args.self.now.cell.state.story in
    ap (λ w. w.state.story.past) c.front.ensures.same ∙ (ap (λ w. w.past) c.look-answer.ensures.history ∙ look_adds s c.args.task c.args.accumulator c.look-answer.result _ c.look-answer.ensures.reply refl)
