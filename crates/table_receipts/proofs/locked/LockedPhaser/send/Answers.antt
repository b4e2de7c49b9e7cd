use Rattle.std.proofs.Common.{◌≡◌, w32, ap, ◌∙◌}
use Rattle.std.proofs.lemmas.Int.{to_z-of_z}
use Rattle.phase_model.specs.declared.call.Call.TheVariants.{Send as send}
use Rattle.phase_model.specs.Replies.{reply, done_result}
use Rattle.table_receipts.proofs.Kept.{follows, receipt}
use Rattle.table_receipts.specs.Logs.{Sight}
use Rattle.table_receipts.proofs.locked.LockedPhaser.send.Goals as goal

pub follow-requires-clause-follows : goal.follow-requires-clause-follows
follow-requires-clause-follows g c =
    let cell = c.deref_mut.result.now in
    let s = cell.cell.state.story in
    let round = to_z-of_z w32 c.args.value c.ranges.value in
    follows c.includes.new.self.story s c.history-2.result.now (reply s (send c.args.task c.args.accumulator c.args.value)) (ap (λ (x : Sight). x.story) c.includes.ensures.same.0 ∙ cell.told) (c.history-2.ensures.history ∙ (rw round at c.send-answer.ensures.history))

pub returns-clause-told : goal.returns-clause-told
returns-clause-told g c =
    let cell = c.deref_mut.result.now in
    let s = cell.cell.state.story in
    let round = to_z-of_z w32 c.args.value c.ranges.value in
    receipt (λ _ r. c.send-answer.result ≡ done_result r) (send c.args.task c.args.accumulator c.args.value) c.args.me.now.story cell.log.story s c.history-2.result.now c.follow.new.self c.front.result cell.told c.includes.ensures.begins (rw round at c.send-answer.ensures.reply) (c.history-2.ensures.history ∙ (rw round at c.send-answer.ensures.history)) (ap (λ (x : Sight). x.story) c.follow.ensures) c.front.ensures.all
