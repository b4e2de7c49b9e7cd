use Rattle.std.proofs.Common.{◌≡◌, map, refl, ap, ◌∙◌}
use Rattle.phase_model.specs.declared.call.Call.TheVariants.{Make as make}
use Rattle.phase_model.specs.Replies.{reply, done_result}
use Rattle.told_history.specs.Wide.{event_of}
use Rattle.long_locks.specs.Events.{with_one}
use Rattle.long_locks.specs.Told.{numbered}
use Rattle.long_locks.proofs.Adds.{make_adds}
use Rattle.long_locks.proofs.Kept.{kept, receipt}
use Rattle.long_locks.proofs.Numbers.{numbered_is}
use Rattle.long_locks.proofs.receipt_cell.ReceiptCell.make.Goals as goal

pub invariant_of-self : goal.invariant_of-self
invariant_of-self g c =
    let cell = c.args.self.now in
    let s = cell.cell.state.story in
    let t = cell.cell.state.next in
    let is = numbered_is t (done_result (reply s (make t c.args.mode))) c.make-answer.result c.make-answer.ensures.number c.make-answer.ensures.done c.make-answer.ensures.refused in
    let same = c.begins.ensures.same in
    record {
      named = c.note.ensures.name ∙ (ap (λ w. w.name) same ∙ cell.named);
      told = kept g.J.Naming.terms (map event_of cell.whole.items) (map event_of c.note.new.log.items) s c.make-answer.new.self.state.story (reply s (make t c.args.mode)) c.make_event.result
          cell.told c.make-answer.ensures.history (c.note.ensures.events ∙ ap (λ w. with_one c.make_event.result (map event_of w.items)) same)
          (make_adds s t c.args.mode c.make-answer.result c.make_event.result is c.make_event.ensures);
    }

pub returns-clause-told : goal.returns-clause-told
returns-clause-told g c =
    let cell = c.args.self.now in
    let s = cell.cell.state.story in
    let t = cell.cell.state.next in
    let is = numbered_is t (done_result (reply s (make t c.args.mode))) c.make-answer.result c.make-answer.ensures.number c.make-answer.ensures.done c.make-answer.ensures.refused in
    (t, receipt (λ _ r. c.make-answer.result ≡ numbered t (done_result r)) g.J.Naming.terms (make t c.args.mode) _ (map event_of cell.whole.items) _ s c.make-answer.new.self.state.story cell.told c.begins.ensures.begins is c.make-answer.ensures.history c.front.ensures.all)

pub returns-clause-added : goal.returns-clause-added
returns-clause-added g c =
    let s = c.args.self.now.cell.state.story in
    let t = c.args.self.now.cell.state.next in
    let is = numbered_is t (done_result (reply s (make t c.args.mode))) c.make-answer.result c.make-answer.ensures.number c.make-answer.ensures.done c.make-answer.ensures.refused in
    ap (λ w. w.state.story.past) c.front.ensures.same ∙ (ap (λ w. w.past) c.make-answer.ensures.history ∙ make_adds s t c.args.mode c.make-answer.result _ is refl)
