use Rattle.std.proofs.Common.{ℕ, ◌≡◌, Ok, sym, ap, subst, ◌∙◌}
use Rattle.phase_model.specs.declared.call.Call.TheVariants as calls
use Rattle.phase_model.specs.Replies.{done_result}
use Rattle.phase_model.specs.Rules.{Story}
use Rattle.told_history.specs.Stories.{GoesOn, IsAnswered}
use Rattle.table_receipts.specs.Seen.{story_at}
use Rattle.told_history.proofs.Goes.{answered_goes}
use Rattle.tasks_in_flight.specs.Heard.{IsOwn}
use Rattle.tasks_in_flight.proofs.Heard.{registration_is_own}
use Rattle.world_model.specs.declared.event.Step.TheVariants as steps
use Rattle.task_worker.specs.inner.Driven.{IsReplied}
use Rattle.task_worker.proofs.Replied.{registration_replied}
use Rattle.task_worker.proofs.worker.Shared.register_on.Goals as goal

pub registered-requires-clause-more : goal.registered-requires-clause-more
registered-requires-clause-more g c =
    let old = c.args.task.now in
    let n = c.args.pair.phaser in
    let parent = c.number-parent.result in
    let there =
    c.front-me.ensures.story
    ∙ (ap (λ (k : ℕ). story_at old.fronts k) c.in_ok-number.ensures.same ∙ sym (ap (λ xs. story_at xs n) c.front-me.ensures.fronts)) in
    subst (λ (s : Story). GoesOn s c.register.new.me.story) there
    (answered_goes (λ _ r. c.register.result ≡ done_result r) (calls.Register parent c.args.child c.args.pair.mode) c.front-me.result.story
    c.register.new.me.story c.register.ensures.told)

pub registered-requires-clause-own : goal.registered-requires-clause-own
registered-requires-clause-own g c =
    let parent = c.number-parent.result in
    let told : IsAnswered (λ _ r. Ok tt ≡ done_result r) (calls.Register parent c.args.child c.args.pair.mode) c.front-me.result.story c.register.new.me.story =
    subst (λ (x : _). IsAnswered (λ _ r. x ≡ done_result r) (calls.Register parent c.args.child c.args.pair.mode) c.front-me.result.story c.register.new.me.story)
    c.in_ok-register.was c.register.ensures.told in
    subst (λ (t : ℕ). IsOwn t c.register.new.me.story.past) (c.number-parent.ensures.log ∙ sym c.front-me.ensures.task)
    (registration_is_own c.front-me.result.story c.register.new.me.story parent c.args.child c.args.pair.mode told)

pub returns-clause-told : goal.returns-clause-told
returns-clause-told g c =
    let fronts = c.args.task.now.fronts in
    let p = c.args.pair in
    let parent = c.number-parent.result in
    let told : IsAnswered (λ _ r. Ok tt ≡ done_result r) (calls.Register parent c.args.child p.mode) c.front-me.result.story c.register.new.me.story =
    subst (λ (x : _). IsAnswered (λ _ r. x ≡ done_result r) (calls.Register parent c.args.child p.mode) c.front-me.result.story c.register.new.me.story)
    c.in_ok-register.was c.register.ensures.told in
    let there : c.front-me.result.story ≡ story_at fronts p.phaser =
    c.front-me.ensures.story ∙ ap (λ (n : ℕ). story_at fronts n) c.in_ok-number.ensures.same in
    subst (λ (t : ℕ). IsReplied (story_at fronts p.phaser) (steps.Reg t c.args.child p.mode)) c.number-parent.ensures.standing
    (subst (λ (s : Story). IsReplied s (steps.Reg parent c.args.child p.mode)) there
    (registration_replied c.front-me.result.story c.register.new.me.story parent c.args.child p.mode told c.is_legal.ensures.legal))
