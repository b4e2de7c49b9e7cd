use Rattle.std.proofs.Common.{◌≡◌, Ok, Err, refl, ap, sym, ◌∙◌, subst, rules}
use Rattle.phase_modes.specs.declared.refusal.Refusal.TheVariants.{RegisteredTwice, TasksFull}
use Rattle.phase_model.specs.declared.call.Call.TheVariants.{Register as register}
use Rattle.phase_model.specs.Replies.{reply, after, done_result}
use Rattle.phaser_engine.proofs.Rooms.{past_within}
use Rattle.phaser_core.specs.LongLife.{Numbered}
use Rattle.phaser_core.proofs.Numbers.{next_fresh, next_is_free, numbered_more, numbered_same}
use Rattle.phaser_core.proofs.long_phaser.LongPhaser.register.Goals as goal

pub register-requires : goal.register-requires
register-requires c =
    record { known = sym (next_fresh c.self.inside.next c.self.inside.engine.story.past c.self.invariant.below) }

pub invariant_of-self-2 : goal.invariant_of-self-2
invariant_of-self-2 c =
    let n = c.self.inside.next in
    let s = c.self.inside.engine.story in
    rw c.register.ensures.history
    (numbered_more n s (register c.args.parent n c.args.mode) (λ t. refl)
    (sym c.register.ensures.reply ∙ c.in_ok-register.was) c.self.invariant)

pub invariant_of-self : goal.invariant_of-self
invariant_of-self c =
    let n = c.self.inside.next in
    let s = c.self.inside.engine.story in
    rw c.register.ensures.history
    (numbered_same n s (reply s (register c.args.parent n c.args.mode)) c.in_err-register.field-0.0
    (sym c.register.ensures.reply ∙ c.in_err-register.was) c.self.invariant)

pub returns-clause-done : goal.returns-clause-done
returns-clause-done c =
    subst (λ (v : Numbered). done_result (reply v.story (register c.args.parent v.next c.args.mode)) ≡ Ok tt)
    c.self.view_is (sym c.register.ensures.reply ∙ c.in_ok-register.was)

pub returns-clause-history : goal.returns-clause-history
returns-clause-history c =
    subst
    (λ (v : Numbered). c.register.new.self.story
    ≡ after v.story (reply v.story (register c.args.parent v.next c.args.mode)))
    c.self.view_is c.register.ensures.history

pub returns-in_err-register-clause-refused : goal.returns-in_err-register-clause-refused
returns-in_err-register-clause-refused c =
    let refusal = c.in_err-register.field-0.0 in
    let given : c.from_residual.result ≡ Err refusal = search rules in
    rw given
    (subst
    (λ (v : Numbered). done_result (reply v.story (register c.args.parent v.next c.args.mode)) ≡ Err refusal)
    c.self.view_is (sym c.register.ensures.reply ∙ c.in_err-register.was))

pub returns-in_err-register-clause-history : goal.returns-in_err-register-clause-history
returns-in_err-register-clause-history c =
    subst
    (λ (v : Numbered). c.register.new.self.story
    ≡ after v.story (reply v.story (register c.args.parent v.next c.args.mode)))
    c.self.view_is c.register.ensures.history

pub returns-in_err-register-clause-numbered : goal.returns-in_err-register-clause-numbered
returns-in_err-register-clause-numbered c =
    let s = c.self.inside.engine.story in
    let refusal = c.in_err-register.field-0.0 in
    let given : c.from_residual.result ≡ Err refusal = search rules in
    let was : done_result (reply s (register c.args.parent c.self.inside.next c.args.mode)) ≡ Err refusal =
    sym c.register.ensures.reply ∙ c.in_err-register.was in
    let free =
    next_is_free c.self.inside.next s c.args.parent c.args.mode c.self.invariant
    (past_within s.limits s.terms s.past c.history.ensures.legal) in (
      λ k.
          let is : Err refusal ≡ Err RegisteredTwice = sym given ∙ k in
          let same : refusal ≡ RegisteredTwice = cc in
          free.0 (was ∙ ap (λ r. Err r) same),
      λ k.
          let is : Err refusal ≡ Err TasksFull = sym given ∙ k in
          let same : refusal ≡ TasksFull = cc in
          free.1 (was ∙ ap (λ r. Err r) same),
    )
