use Rattle.std.proofs.Common.{◌≡◌, ℕ, [], sym, ap, ◌∙◌, subst}
use Rattle.phase_modes.specs.declared.reg.Mode.TheVariants.{SigWait}
use Rattle.phase_model.specs.declared.history.Event.TheVariants.{Make}
use Rattle.phase_model.specs.declared.call.Call.TheVariants.{Make as make}
use Rattle.phase_model.specs.Rules.{Story, with_event}
use Rattle.phase_model.specs.Laws.{IsLegal}
use Rattle.level_phaser.specs.inner.Stories.{Joined}
use Rattle.level_phaser.proofs.Answered.{done_event}
use Rattle.level_phaser.proofs.Joins.{made_level}
use Rattle.phase_model.specs.Replies.{reply}
use Rattle.level_phaser.proofs.Answered.{same_limits}
use Rattle.level_phaser.proofs.phaser.make_first.Goals as goal

pub returns-clause-some : goal.returns-clause-some
returns-clause-some c =
    let s = c.args.phaser.now.story in
    let t = c.in-Ok.task in
    let ok = c.in-Ok.ensures in
    let is : c.make.new.self.story ≡ with_event s (Make t SigWait) =
    c.make.ensures.history ∙ done_event s (make c.args.phaser.now.next SigWait) ok.done
    ∙ ap (λ (n : ℕ). with_event s (Make n SigWait)) (sym ok.number) in
    let legal = c.history.ensures.legal in (
      subst (λ (z : Story). Joined 0 t [] s z) (sym is)
          (made_level t s c.requires.0 c.requires.1 (subst (λ (z : Story). IsLegal z) is legal)),
      legal,
      ok.next,
    )

pub returns-clause-limits : goal.returns-clause-limits
returns-clause-limits c =
    let s = c.args.phaser.now.story in
    ap (λ (z : Story). z.limits) c.make.ensures.history ∙ same_limits s (reply s (make c.args.phaser.now.next SigWait))

pub returns-in_default-clause-limits : goal.returns-in_default-clause-limits
returns-in_default-clause-limits c =
    let s = c.args.phaser.now.story in
    ap (λ (z : Story). z.limits) c.make.ensures.history ∙ same_limits s (reply s (make c.args.phaser.now.next SigWait))
