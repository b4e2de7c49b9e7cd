use Rattle.std.proofs.Common.{ap, sym, ◌∙◌}
use Rattle.phase_model.specs.declared.call.Call.TheVariants.{Pass as pass}
use Rattle.phase_model.specs.Replies.{reply}
use Rattle.phase_model.specs.Answers.{pass_result}
use Rattle.phaser_core.specs.Parking.{is_parked, locked_pass, answered_is}
use Rattle.long_locks.specs.Told.{IsPassAnswer}
use Rattle.table_receipts.proofs.Closes.{pass_closes}
use Rattle.table_receipts.proofs.Kept.{follows, receipt}
use Rattle.table_receipts.specs.Logs.{Sight}
use Rattle.table_receipts.proofs.locked.LockedPhaser.pass.Goals as goal

pub follow-requires-clause-follows : goal.follow-requires-clause-follows
follow-requires-clause-follows g c =
    let cell = c.deref_mut.result.now in
    let s = cell.cell.state.story in
    follows c.includes.new.self.story s c.history-2.result.now (reply s (pass c.args.task)) (ap (λ (x : Sight). x.story) c.includes.ensures.same.0 ∙ cell.told) (c.history-2.ensures.history ∙ c.pass-answer.ensures.history)

pub returns-clause-told : goal.returns-clause-told
returns-clause-told g c =
    let cell = c.deref_mut.result.now in
    let s = cell.cell.state.story in
    let is : IsPassAnswer c.args.item (pass_result s.past (reply s (pass c.args.task))) c.pass-answer.result = (is_parked c.args.task cell.cell.parked.items, c.pass-answer.ensures.answer ∙ ap (λ a. locked_pass a (is_parked c.args.task cell.cell.parked.items) c.args.item) (sym (answered_is s c.args.task))) in
    receipt (λ h r. IsPassAnswer c.args.item (pass_result h r) c.pass-answer.result) (pass c.args.task) c.args.me.now.story cell.log.story s c.history-2.result.now c.follow.new.self c.front.result cell.told c.includes.ensures.begins is (c.history-2.ensures.history ∙ c.pass-answer.ensures.history) (ap (λ (x : Sight). x.story) c.follow.ensures) c.front.ensures.all

pub returns-clause-closed : goal.returns-clause-closed
returns-clause-closed g c =
    let cell = c.deref_mut.result.now in
    let s = cell.cell.state.story in
    let is : IsPassAnswer c.args.item (pass_result s.past (reply s (pass c.args.task))) c.pass-answer.result = (is_parked c.args.task cell.cell.parked.items, c.pass-answer.ensures.answer ∙ ap (λ a. locked_pass a (is_parked c.args.task cell.cell.parked.items) c.args.item) (sym (answered_is s c.args.task))) in
    pass_closes c.args.me.now.story c.front.result.story c.args.task c.args.item c.pass-answer.result
    (receipt (λ h r. IsPassAnswer c.args.item (pass_result h r) c.pass-answer.result) (pass c.args.task) c.args.me.now.story cell.log.story s c.history-2.result.now c.follow.new.self c.front.result cell.told c.includes.ensures.begins is (c.history-2.ensures.history ∙ c.pass-answer.ensures.history) (ap (λ (x : Sight). x.story) c.follow.ensures) c.front.ensures.all)
    c.is_legal.ensures.legal
