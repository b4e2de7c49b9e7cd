use Rattle.std.proofs.Common.{rules, ◌+◌, ℕ, refl, List, length, ap, sym, ◌∙◌, subst}
use Rattle.std.proofs.lemmas.Fn.{filter_same}
use Rattle.phase_model.specs.declared.call.Call.TheVariants.{Drop as drop_task}
use Rattle.phase_model.specs.Replies.{reply}
use Rattle.phase_model.specs.declared.terms.Terms.{Terms}
use Rattle.phase_model.specs.Rules.{Story}
use Rattle.level_phaser.specs.RoundLaws.{StandLevel}
use Rattle.level_phaser.proofs.Answered.{done_event, refused_kept, same_terms}
use Rattle.level_phaser.proofs.Leaves.{LeftAt, left_level}
use Rattle.level_phaser.proofs.Sends.{kept_level}
use Rattle.level_phaser.proofs.phaser.LevelPhaserLevelState.leave.Goals as goal

pub returns-in-Ok-clause-left : goal.returns-in-Ok-clause-left
returns-in-Ok-clause-left c _ =
    let d = c.args.self.now in
    let t = c.args.task in
    let s = d.phaser.story in
    let is = c.leave-outcome.ensures.history ∙ done_event s (drop_task t) (sym c.in-Ok.ensures.reply) in
    let k = subst (λ (z : Story). LeftAt c.args.phase t d.tasks.items s z) (sym is)
    (left_level c.args.phase t d.tasks.items s c.requires.ready.1 c.requires.registered) in
    let rest = filter_same _ _ _ (λ x b f' k. search rules) _ _ c.retain.ensures.filtered in (
      k.longer,
      ap (λ (n : ℕ). n + 1) (c.retain.new.self.ok.0 ∙ ap length rest) ∙ k.fewer
          ∙ sym d.tasks.ok.0,
      k.gone,
      k.others,
      ap (λ (z : Story). length z.terms.ops) c.leave-outcome.ensures.history
          ∙ ap (λ (t : Terms). length t.ops) (same_terms s (reply s (drop_task t))),
    )

pub returns-in-Ok-clause-ready : goal.returns-in-Ok-clause-ready
returns-in-Ok-clause-ready c =
    let d = c.args.self.now in
    let t = c.args.task in
    let s = d.phaser.story in
    let is = c.leave-outcome.ensures.history ∙ done_event s (drop_task t) (sym c.in-Ok.ensures.reply) in
    let k = subst (λ (z : Story). LeftAt c.args.phase t d.tasks.items s z) (sym is)
    (left_level c.args.phase t d.tasks.items s c.requires.ready.1 c.requires.registered) in
    let rest = filter_same _ _ _ (λ x b f' k. search rules) _ _ c.retain.ensures.filtered in (
      c.history.ensures.legal,
      subst (λ (ts : List ℕ). StandLevel c.args.phase ts c.leave-outcome.new.self.story) (sym rest) k.stand,
    )

pub returns-in-Err-clause-kept : goal.returns-in-Err-clause-kept
returns-in-Err-clause-kept c _ =
    let d = c.args.self.now in
    let s = d.phaser.story in
    let same = c.leave-outcome.ensures.history ∙ refused_kept s (reply s (drop_task c.args.task)) _
    (sym c.in-Err.ensures.reply) in
    let k = kept_level c.args.phase d.tasks.items s _ c.requires.ready.1 same in (
      k.longer,
      refl,
      (λ u live. k.all u tt live),
      ap (λ (z : Story). length z.terms.ops) c.leave-outcome.ensures.history
          ∙ ap (λ (t : Terms). length t.ops) (same_terms s (reply s (drop_task c.args.task))),
    )

pub returns-in-Err-clause-ready : goal.returns-in-Err-clause-ready
returns-in-Err-clause-ready c =
    let d = c.args.self.now in
    let s = d.phaser.story in
    let same = c.leave-outcome.ensures.history ∙ refused_kept s (reply s (drop_task c.args.task)) _
    (sym c.in-Err.ensures.reply) in
    (c.history.ensures.legal, (kept_level c.args.phase d.tasks.items s _ c.requires.ready.1 same).stand)
