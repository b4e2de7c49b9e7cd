use Rattle.std.proofs.Common.{◌≡◌, ap, ◌∙◌}
use Rattle.phase_model.specs.declared.call.Call.TheVariants.{Look as look}
use Rattle.phase_model.specs.Replies.{reply}
use Rattle.phase_model.specs.Answers.{look_result}
use Rattle.table_receipts.proofs.Kept.{follows, receipt}
use Rattle.table_receipts.proofs.Looks.{look_shows}
use Rattle.table_receipts.specs.Logs.{Sight}
use Rattle.table_receipts.proofs.locked.LockedPhaser.look.Goals as goal

pub follow-requires-clause-follows : goal.follow-requires-clause-follows
follow-requires-clause-follows g c =
    let cell = c.deref_mut.result.now in
    let s = cell.cell.state.story in
    follows c.includes.new.self.story s c.history-2.result.now (reply s (look c.args.task c.args.accumulator)) (ap (λ (x : Sight). x.story) c.includes.ensures.same.0 ∙ cell.told) (c.history-2.ensures.history ∙ c.look-answer.ensures.history)

pub returns-clause-told : goal.returns-clause-told
returns-clause-told g c =
    let cell = c.deref_mut.result.now in
    let s = cell.cell.state.story in
    receipt (λ _ r. c.look-answer.result ≡ look_result r) (look c.args.task c.args.accumulator) c.args.me.now.story cell.log.story s c.history-2.result.now c.follow.new.self c.front.result cell.told c.includes.ensures.begins c.look-answer.ensures.reply (c.history-2.ensures.history ∙ c.look-answer.ensures.history) (ap (λ (x : Sight). x.story) c.follow.ensures) c.front.ensures.all

pub returns-clause-seen : goal.returns-clause-seen
returns-clause-seen g c =
    let cell = c.deref_mut.result.now in
    let s = cell.cell.state.story in
    look_shows c.args.me.now.story c.front.result.story c.args.task c.args.accumulator c.look-answer.result
    (receipt (λ _ r. c.look-answer.result ≡ look_result r) (look c.args.task c.args.accumulator) c.args.me.now.story cell.log.story s c.history-2.result.now c.follow.new.self c.front.result cell.told c.includes.ensures.begins c.look-answer.ensures.reply (c.history-2.ensures.history ∙ c.look-answer.ensures.history) (ap (λ (x : Sight). x.story) c.follow.ensures) c.front.ensures.all)
    c.is_legal.ensures.folded
