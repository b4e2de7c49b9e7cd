use Rattle.std.proofs.Common.{◌≡◌, ℕ, sym, ap, ◌∙◌, subst}
use Rattle.phase_modes.specs.declared.reg.Mode.TheVariants.{SigWait}
use Rattle.phase_model.specs.declared.history.Event.TheVariants.{Reg}
use Rattle.phase_model.specs.declared.call.Call.TheVariants.{Register as register}
use Rattle.phase_model.specs.Replies.{reply}
use Rattle.phase_model.specs.Rules.{Story, with_event}
use Rattle.phase_model.specs.Laws.{IsLegal}
use Rattle.level_phaser.specs.inner.Stories.{Joined}
use Rattle.level_phaser.proofs.Answered.{done_event, refused_kept}
use Rattle.level_phaser.proofs.Joins.{joined_level}
use Rattle.level_phaser.proofs.Answered.{same_limits}
use Rattle.level_phaser.proofs.phaser.register_by.Goals as goal

pub returns-in_default-clause-none : goal.returns-in_default-clause-none
returns-in_default-clause-none c =
    let s = c.args.phaser.now.story in
    let story : c.register.new.self.story ≡ s = c.register.ensures.history
    ∙ refused_kept s (reply s (register c.args.parent c.args.phaser.now.next SigWait)) _
    c.in_default.ensures.refused in
    let next : c.register.new.self.next ≡ c.args.phaser.now.next = c.in_default.ensures.kept in
    λ k. record { story = story k; next = next k }

pub returns-clause-some : goal.returns-clause-some
returns-clause-some c =
    let s = c.args.phaser.now.story in
    let t = c.in-Ok.task in
    let q = c.args.parent in
    let ok = c.in-Ok.ensures in
    let is : c.register.new.self.story ≡ with_event s (Reg q t SigWait) =
    c.register.ensures.history ∙ done_event s (register q c.args.phaser.now.next SigWait) ok.done
    ∙ ap (λ (n : ℕ). with_event s (Reg q n SigWait)) (sym ok.number) in
    let legal = c.history.ensures.legal in (
      subst (λ (z : Story). Joined c.args._phase t c.args._tasks.now s z) (sym is)
          (joined_level c.args._phase q t c.args._tasks.now s c.requires.0 c.requires.1
          (subst (λ (z : Story). IsLegal z) is legal)),
      legal,
      ok.next,
    )

pub returns-clause-limits : goal.returns-clause-limits
returns-clause-limits c =
    let s = c.args.phaser.now.story in
    ap (λ (z : Story). z.limits) c.register.ensures.history
    ∙ same_limits s (reply s (register c.args.parent c.args.phaser.now.next SigWait))

pub returns-in_default-clause-limits : goal.returns-in_default-clause-limits
returns-in_default-clause-limits c =
    let s = c.args.phaser.now.story in
    ap (λ (z : Story). z.limits) c.register.ensures.history
    ∙ same_limits s (reply s (register c.args.parent c.args.phaser.now.next SigWait))
