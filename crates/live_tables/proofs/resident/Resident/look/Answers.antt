use Rattle.std.proofs.Common.{◌≡◌, ap, ◌∙◌}
use Rattle.phase_model.specs.declared.call.Call.TheVariants.{Look as look}
use Rattle.phase_model.specs.Replies.{reply}
use Rattle.phase_model.specs.Answers.{look_result}
use Rattle.long_locks.proofs.Adds.{look_adds}
use Rattle.live_tables.proofs.Looks.{look_shows}
use Rattle.live_tables.specs.Slots.{told_of, noted, IsHere}
use Rattle.live_tables.proofs.Kept.{here_after, receipt}
use Rattle.live_tables.proofs.Projects.{tells_on, goes_by}
use Rattle.live_tables.proofs.resident.Resident.look.Goals as goal

pub invariant_of-self : goal.invariant_of-self
invariant_of-self g c =
    let cell = c.args.self.now in
    let s = cell.cell.state.story in
    let t = c.args.task in
    let is = c.look-answer.ensures.reply in
    let same = c.begins.ensures.same in
    let before : IsHere cell.number cell.whole.items s = record { told = cell.told; made = cell.made; legal = cell.legal; later = cell.later; gone = cell.gone } in
    let now = c.note.ensures.items ∙ ap (λ w. noted cell.number c.terms-terms.result c.look_event-event.result w.items) same in
    let here = here_after cell.number c.terms-terms.result c.look_event-event.result cell.whole.items s c.look-answer.new.self.state.story (reply s (look t c.args.accumulator)) before c.look-answer.ensures.history
    (look_adds s t c.args.accumulator c.look-answer.result c.look_event-event.result is c.look_event-event.ensures) c.look-answer.new.self.kept.legal in
    record {
      named = c.note.ensures.name ∙ (ap (λ w. w.name) same ∙ cell.named);
      told = rw now here.told;
      made = rw now here.made;
      legal = rw now here.legal;
      later = rw now here.later;
      gone = rw now here.gone;
    }

pub returns-clause-told : goal.returns-clause-told
returns-clause-told g c =
    let cell = c.args.self.now in
    let s = cell.cell.state.story in
    let t = c.args.task in
    let is = c.look-answer.ensures.reply in
    receipt (λ _ r. c.look-answer.result ≡ look_result r) (look t c.args.accumulator) cell.number _ cell.whole.items _ s c.look-answer.new.self.state.story cell.told (tells_on _ cell.whole.items c.begins.ensures.begins cell.number) is c.look-answer.ensures.history c.front.ensures.here

pub returns-clause-seen : goal.returns-clause-seen
returns-clause-seen g c =
    let cell = c.args.self.now in
    let s = cell.cell.state.story in
    let t = c.args.task in
    let is = c.look-answer.ensures.reply in
    look_shows (told_of cell.number c.args.me.now.items) (told_of cell.number c.front.result.items) t c.args.accumulator c.look-answer.result
    (receipt (λ _ r. c.look-answer.result ≡ look_result r) (look t c.args.accumulator) cell.number _ cell.whole.items _ s c.look-answer.new.self.state.story cell.told (tells_on _ cell.whole.items c.begins.ensures.begins cell.number) is c.look-answer.ensures.history c.front.ensures.here)
    (c.is_legal.ensures.folded cell.number)

pub returns-clause-others : goal.returns-clause-others
returns-clause-others g c = λ k.
    let cell = c.args.self.now in
    goes_by cell.number k c.terms-terms.result c.look_event-event.result c.args.me.now.items cell.whole.items c.front.result.items c.begins.ensures.begins
    (c.front.ensures.all ∙ (c.note.ensures.items ∙ ap (λ w. noted cell.number c.terms-terms.result c.look_event-event.result w.items) c.begins.ensures.same))
