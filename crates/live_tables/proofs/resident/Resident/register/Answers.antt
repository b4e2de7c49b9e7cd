use Rattle.std.proofs.Common.{◌≡◌, ap, ◌∙◌}
use Rattle.phase_model.specs.declared.call.Call.TheVariants.{Register as register}
use Rattle.phase_model.specs.Replies.{reply, done_result}
use Rattle.long_locks.specs.Told.{numbered}
use Rattle.long_locks.proofs.Adds.{register_adds}
use Rattle.long_locks.proofs.Numbers.{numbered_is}
use Rattle.live_tables.specs.Slots.{noted, IsHere}
use Rattle.live_tables.proofs.Kept.{here_after, receipt}
use Rattle.live_tables.proofs.Projects.{tells_on, goes_by}
use Rattle.live_tables.proofs.resident.Resident.register.Goals as goal

pub invariant_of-self : goal.invariant_of-self
invariant_of-self g c =
    let cell = c.args.self.now in
    let s = cell.cell.state.story in
    let t = cell.cell.state.next in
    let is = numbered_is t (done_result (reply s (register c.args.parent t c.args.mode))) c.register-answer.result c.register-answer.ensures.number c.register-answer.ensures.done c.register-answer.ensures.refused in
    let same = c.begins.ensures.same in
    let before : IsHere cell.number cell.whole.items s = record { told = cell.told; made = cell.made; legal = cell.legal; later = cell.later; gone = cell.gone } in
    let now = c.note.ensures.items ∙ ap (λ w. noted cell.number c.terms-terms.result c.register_event-event.result w.items) same in
    let here = here_after cell.number c.terms-terms.result c.register_event-event.result cell.whole.items s c.register-answer.new.self.state.story (reply s (register c.args.parent t c.args.mode)) before c.register-answer.ensures.history
    (register_adds s c.args.parent t c.args.mode c.register-answer.result c.register_event-event.result is c.register_event-event.ensures) c.register-answer.new.self.kept.legal in
    record {
      named = c.note.ensures.name ∙ (ap (λ w. w.name) same ∙ cell.named);
      told = rw now here.told;
      made = rw now here.made;
      legal = rw now here.legal;
      later = rw now here.later;
      gone = rw now here.gone;
    }

pub returns-clause-told : goal.returns-clause-told
returns-clause-told g c =
    let cell = c.args.self.now in
    let s = cell.cell.state.story in
    let t = cell.cell.state.next in
    let is = numbered_is t (done_result (reply s (register c.args.parent t c.args.mode))) c.register-answer.result c.register-answer.ensures.number c.register-answer.ensures.done c.register-answer.ensures.refused in
    (t, receipt (λ _ r. c.register-answer.result ≡ numbered t (done_result r)) (register c.args.parent t c.args.mode) cell.number _ cell.whole.items _ s c.register-answer.new.self.state.story cell.told (tells_on _ cell.whole.items c.begins.ensures.begins cell.number) is c.register-answer.ensures.history c.front.ensures.here)

pub returns-clause-others : goal.returns-clause-others
returns-clause-others g c = λ k.
    let cell = c.args.self.now in
    goes_by cell.number k c.terms-terms.result c.register_event-event.result c.args.me.now.items cell.whole.items c.front.result.items c.begins.ensures.begins
    (c.front.ensures.all ∙ (c.note.ensures.items ∙ ap (λ w. noted cell.number c.terms-terms.result c.register_event-event.result w.items) c.begins.ensures.same))
