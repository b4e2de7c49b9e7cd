use Rattle.std.proofs.Common.{◌≡◌, ap, ◌∙◌}
use Rattle.phase_model.specs.declared.call.Call.TheVariants.{Drop as drop_task}
use Rattle.phase_model.specs.Replies.{reply, done_result}
use Rattle.table_receipts.proofs.Kept.{follows, receipt}
use Rattle.table_receipts.specs.Logs.{Sight}
use Rattle.table_receipts.proofs.locked.LockedPhaser.drop_task.Goals as goal

pub follow-requires-clause-follows : goal.follow-requires-clause-follows
follow-requires-clause-follows g c =
    let cell = c.deref_mut.result.now in
    let s = cell.cell.state.story in
    follows c.includes.new.self.story s c.history-2.result.now (reply s (drop_task c.args.task)) (ap (λ (x : Sight). x.story) c.includes.ensures.same.0 ∙ cell.told) (c.history-2.ensures.history ∙ c.drop_task-answer.ensures.history)

pub returns-clause-told : goal.returns-clause-told
returns-clause-told g c =
    let cell = c.deref_mut.result.now in
    let s = cell.cell.state.story in
    receipt (λ _ r. c.drop_task-answer.result ≡ done_result r) (drop_task c.args.task) c.args.me.now.story cell.log.story s c.history-2.result.now c.follow.new.self c.front.result cell.told c.includes.ensures.begins c.drop_task-answer.ensures.reply (c.history-2.ensures.history ∙ c.drop_task-answer.ensures.history) (ap (λ (x : Sight). x.story) c.follow.ensures) c.front.ensures.all
