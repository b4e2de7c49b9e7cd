use Rattle.std.proofs.Common.{ap, sym, ◌∙◌}
use Rattle.phase_model.specs.declared.call.Call.TheVariants.{Signal as signal}
use Rattle.phase_model.specs.Replies.{reply}
use Rattle.phase_model.specs.Answers.{signal_result}
use Rattle.phaser_core.specs.Parking.{is_parked, locked_signal, signal_answered_is}
use Rattle.long_locks.specs.Told.{IsSignalAnswer}
use Rattle.table_receipts.proofs.Kept.{follows, receipt}
use Rattle.table_receipts.specs.Logs.{Sight}
use Rattle.table_receipts.proofs.locked.LockedPhaser.signal.Goals as goal

pub follow-requires-clause-follows : goal.follow-requires-clause-follows
follow-requires-clause-follows g c =
    let cell = c.deref_mut.result.now in
    let s = cell.cell.state.story in
    follows c.includes.new.self.story s c.history-2.result.now (reply s (signal c.args.task c.args.number)) (ap (λ (x : Sight). x.story) c.includes.ensures.same.0 ∙ cell.told) (c.history-2.ensures.history ∙ c.signal-answer.ensures.history)

pub returns-clause-told : goal.returns-clause-told
returns-clause-told g c =
    let cell = c.deref_mut.result.now in
    let s = cell.cell.state.story in
    let is : IsSignalAnswer c.args.item (signal_result (reply s (signal c.args.task c.args.number))) c.signal-answer.result = (is_parked c.args.task cell.cell.parked.items, c.signal-answer.ensures.answer ∙ ap (λ a. locked_signal a (is_parked c.args.task cell.cell.parked.items) c.args.item) (sym (signal_answered_is s c.args.task c.args.number))) in
    receipt (λ _ r. IsSignalAnswer c.args.item (signal_result r) c.signal-answer.result) (signal c.args.task c.args.number) c.args.me.now.story cell.log.story s c.history-2.result.now c.follow.new.self c.front.result cell.told c.includes.ensures.begins is (c.history-2.ensures.history ∙ c.signal-answer.ensures.history) (ap (λ (x : Sight). x.story) c.follow.ensures) c.front.ensures.all
