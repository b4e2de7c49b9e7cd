use Rattle.std.proofs.Common.{◌≡◌, ap, ◌∙◌}
use Rattle.phase_model.specs.declared.call.Call.TheVariants.{SingleDone as single_done}
use Rattle.phase_model.specs.Replies.{reply, done_result}
use Rattle.table_receipts.proofs.Kept.{follows, receipt}
use Rattle.table_receipts.specs.Logs.{Sight}
use Rattle.table_receipts.proofs.locked.LockedPhaser.single_done.Goals as goal

pub follow-requires-clause-follows : goal.follow-requires-clause-follows
follow-requires-clause-follows g c =
    let cell = c.deref_mut.result.now in
    let s = cell.cell.state.story in
    follows c.includes.new.self.story s c.history-2.result.now (reply s (single_done c.args.task)) (ap (λ (x : Sight). x.story) c.includes.ensures.same.0 ∙ cell.told) (c.history-2.ensures.history ∙ c.single_done-answer.ensures.history)

pub returns-clause-told : goal.returns-clause-told
returns-clause-told g c =
    let cell = c.deref_mut.result.now in
    let s = cell.cell.state.story in
    receipt (λ _ r. c.single_done-answer.result ≡ done_result r) (single_done c.args.task) c.args.me.now.story cell.log.story s c.history-2.result.now c.follow.new.self c.front.result cell.told c.includes.ensures.begins c.single_done-answer.ensures.reply (c.history-2.ensures.history ∙ c.single_done-answer.ensures.history) (ap (λ (x : Sight). x.story) c.follow.ensures) c.front.ensures.all
