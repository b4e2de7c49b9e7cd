use Rattle.std.proofs.Common.{ℕ, ◌≡◌, Result, Ok, Err, ap, subst, ◌∙◌}
use Rattle.std.specs.Prelude.{OnOk}
use Rattle.phase_modes.specs.declared.refusal.Refusal.{Refusal}
use Rattle.phase_model.specs.declared.call.Call.TheVariants as calls
use Rattle.phase_model.specs.Replies.{done_result}
use Rattle.phase_model.specs.Rules.{Story}
use Rattle.table_receipts.specs.Seen.{story_at}
use Rattle.told_history.specs.Stories.{IsAnswered}
use Rattle.world_model.specs.declared.event.Step.TheVariants as steps
use Rattle.task_worker.specs.inner.Driven.{IsReplied}
use Rattle.task_worker.proofs.Replied.{drop_replied}
use Rattle.task_worker.proofs.worker.Shared.drop_on.Goals as goal

-- what holds holds also where this is answered Ok
on_ok : (P : Type 0) → P → (r : Result (Unit {0}) Refusal) → OnOk r P
on_ok P is (Ok u) = is
on_ok P is (Err e) = tt

pub returns-clause-told : goal.returns-clause-told
returns-clause-told g c =
    let fronts = c.args.task.now.fronts in
    let n = c.args.phaser in
    let t = c.get-2.result in
    let before = c.front-me.result.story in
    let now = c.drop_task.new.me.story in
    let told : IsAnswered (λ _ r. Ok tt ≡ done_result r) (calls.Drop t) before now =
    subst (λ (x : _). IsAnswered (λ _ r. x ≡ done_result r) (calls.Drop t) before now) c.in_ok-drop_task.was c.drop_task.ensures.told in
    let there : before ≡ story_at fronts n =
    c.front-me.ensures.story ∙ ap (λ (m : ℕ). story_at fronts m) (c.in_ok-number.ensures.same ∙ c.get.ensures) in
    on_ok (IsReplied (story_at fronts n) (steps.Drop c.args.leaver))
    (subst (λ (u : ℕ). IsReplied (story_at fronts n) (steps.Drop u)) c.get-2.ensures
    (subst (λ (s : Story). IsReplied s (steps.Drop t)) there (drop_replied before now t told c.is_legal.ensures.legal)))
    c.flush.result
