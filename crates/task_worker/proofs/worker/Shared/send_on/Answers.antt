use Rattle.std.proofs.Common.{ℕ, ◌≡◌, Ok, refl, sym, ap, subst, w32, ◌∙◌}
use Rattle.std.specs.Prelude.{ℤ}
use Rattle.std.proofs.lemmas.Int.{to_z-of_z}
use Rattle.phase_model.specs.declared.call.Call.TheVariants as calls
use Rattle.phase_model.specs.Replies.{done_result}
use Rattle.phase_model.specs.Rules.{Story}
use Rattle.told_history.specs.Stories.{GoesOn, IsAnswered}
use Rattle.table_receipts.specs.Seen.{story_at}
use Rattle.told_history.proofs.Goes.{answered_goes}
use Rattle.tasks_in_flight.specs.Heard.{send, HasSent}
use Rattle.tasks_in_flight.proofs.Heard.{has_sent}
use Rattle.tasks_in_flight.proofs.Saying.{shows_kept}
use Rattle.world_model.specs.declared.event.WorldEvent.TheVariants.{Phaser}
use Rattle.world_model.specs.declared.event.Step.TheVariants as steps
use Rattle.task_standing.specs.Known.{Known}
use Rattle.task_standing.specs.Noted.{noted}
use Rattle.task_worker.specs.inner.Driven.{IsReplied}
use Rattle.task_worker.proofs.Replied.{send_replied}
use Rattle.task_worker.proofs.worker.Shared.send_on.Goals as goal

pub sent-requires-clause-asked : goal.sent-requires-clause-asked
sent-requires-clause-asked g c =
    let old = c.args.task.now in
    let mid = c.front-me.new.self in
    let n = c.args.phaser in
    let a = c.args.accumulator in
    let v = c.args.value in
    let t = c.number-sender.result in
    let before = c.front-me.result.story in
    let now = c.send.new.me.story in
    let told : IsAnswered (λ _ r. Ok tt ≡ done_result r) (calls.Send t a v) before now =
    subst (λ (x : _). IsAnswered (λ _ r. x ≡ done_result r) (calls.Send t a v) before now) c.in_ok-send.was
    (subst (λ (z : ℤ). IsAnswered (λ _ r. c.send.result ≡ done_result r) (calls.Send t a z) before now) (to_z-of_z w32 v c.ranges.value) c.send.ensures.told) in
    let there : before ≡ story_at mid.fronts n =
    c.front-me.ensures.story
    ∙ (ap (λ (k : ℕ). story_at old.fronts k) c.in_ok-number.ensures.same ∙ sym (ap (λ xs. story_at xs n) c.front-me.ensures.fronts)) in
    let own : t ≡ mid.log.task = c.number-sender.ensures.log ∙ sym c.front-me.ensures.task in (
      a,
      v,
      subst (λ (u : ℕ). HasSent u a v (story_at mid.fronts n) now) own
          (subst (λ (s : Story). HasSent t a v s now) there (has_sent before now t a v told)),
      shows_kept g.B.Body.shows old.body mid.body old.log.task mid.log.task (send n a v) old.fronts mid.fronts old.standing mid.standing old.log.log mid.log.log
          c.front-me.ensures.body c.front-me.ensures.task c.front-me.ensures.fronts c.front-me.ensures.standing
          (ap (λ d. d.log) c.front-me.ensures.log_kept) c.requires.says,
    )

pub sent-requires-clause-more : goal.sent-requires-clause-more
sent-requires-clause-more g c =
    let old = c.args.task.now in
    let mid = c.front-me.new.self in
    let n = c.args.phaser in
    let before = c.front-me.result.story in
    let v = c.args.value in
    let there : before ≡ story_at mid.fronts n =
    c.front-me.ensures.story
    ∙ (ap (λ (k : ℕ). story_at old.fronts k) c.in_ok-number.ensures.same ∙ sym (ap (λ xs. story_at xs n) c.front-me.ensures.fronts)) in
    subst (λ (s : Story). GoesOn s c.send.new.me.story) there
    (answered_goes (λ _ r. c.send.result ≡ done_result r) (calls.Send c.number-sender.result c.args.accumulator v) before c.send.new.me.story
    (subst (λ (z : ℤ). IsAnswered (λ _ r. c.send.result ≡ done_result r) (calls.Send c.number-sender.result c.args.accumulator z) before c.send.new.me.story)
    (to_z-of_z w32 v c.ranges.value) c.send.ensures.told))

pub returns-clause-acted : goal.returns-clause-acted
returns-clause-acted g c =
    let old = c.args.task.now in
    let n = c.args.phaser in
    let a = c.args.accumulator in
    let v = c.args.value in
    let t = c.number-sender.result in
    let before = c.front-me.result.story in
    let now = c.send.new.me.story in
    let told : IsAnswered (λ _ r. Ok tt ≡ done_result r) (calls.Send t a v) before now =
    subst (λ (x : _). IsAnswered (λ _ r. x ≡ done_result r) (calls.Send t a v) before now) c.in_ok-send.was
    (subst (λ (z : ℤ). IsAnswered (λ _ r. c.send.result ≡ done_result r) (calls.Send t a z) before now) (to_z-of_z w32 v c.ranges.value) c.send.ensures.told) in
    let there : before ≡ story_at old.fronts n = c.front-me.ensures.story ∙ ap (λ (k : ℕ). story_at old.fronts k) c.in_ok-number.ensures.same in
    let e = Phaser n (steps.Send old.standing.number a v) in (
      e,
      refl,
      subst (λ (u : ℕ). IsReplied (story_at old.fronts n) (steps.Send u a v)) c.number-sender.ensures.standing
          (subst (λ (s : Story). IsReplied s (steps.Send t a v)) there (send_replied before now t a v told c.is_legal.ensures.legal)),
      c.sent.ensures.acted ∙ ap (λ (k : Known). noted e k) c.front-me.ensures.standing,
    )
