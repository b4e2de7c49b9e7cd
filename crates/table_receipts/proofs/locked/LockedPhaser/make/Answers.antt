use Rattle.std.proofs.Common.{ap, ◌∙◌}
use Rattle.phase_model.specs.declared.call.Call.TheVariants.{Make as make}
use Rattle.phase_model.specs.Replies.{reply}
use Rattle.phase_model.specs.Rules.{Story}
use Rattle.phase_model.specs.Answers.{made_with}
use Rattle.table_receipts.proofs.Kept.{made_follows, made_receipt}
use Rattle.table_receipts.specs.Logs.{Sight}
use Rattle.table_receipts.proofs.locked.LockedPhaser.make.Goals as goal

pub follow-requires-clause-follows : goal.follow-requires-clause-follows
follow-requires-clause-follows g c =
    let cell = c.deref_mut.result.now in
    let s = cell.cell.state.story in
    made_follows c.includes.new.self.story s c.history-2.result.now c.args.terms.now c.args.task c.args.mode (ap (λ (x : Sight). x.story) c.includes.ensures.same.0 ∙ cell.told) (c.history-2.ensures.history ∙ c.make-answer.ensures.history)

pub returns-clause-told : goal.returns-clause-told
returns-clause-told g c =
    let cell = c.deref_mut.result.now in
    let s = cell.cell.state.story in
    made_receipt c.make-answer.result (make c.args.task c.args.mode) c.args.terms.now c.args.me.now.story cell.log.story s c.history-2.result.now c.follow.new.self c.front.result cell.told c.includes.ensures.begins c.make-answer.ensures.reply (c.history-2.ensures.history ∙ c.make-answer.ensures.history) (ap (λ (x : Sight). x.story) c.follow.ensures) c.front.ensures.all

pub returns-clause-added : goal.returns-clause-added
returns-clause-added g c =
    let same = ap (λ x. x.cell.state.story) c.deref_mut.ensures.value ∙ ap (λ v. v.story) c.self.view_is in
    c.make-answer.ensures.history ∙ ap (λ (s : Story). made_with s c.args.terms.now (reply s (make c.args.task c.args.mode))) same
