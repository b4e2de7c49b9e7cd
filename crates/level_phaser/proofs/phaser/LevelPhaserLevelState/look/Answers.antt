use Rattle.std.proofs.Common.{refl, sym, ap, ◌∙◌, length}
use Rattle.phase_model.specs.declared.terms.Terms.{Terms}
use Rattle.phase_model.specs.declared.call.Call.TheVariants.{Look as look}
use Rattle.phase_model.specs.Rules.{Story}
use Rattle.phase_model.specs.Replies.{reply}
use Rattle.level_phaser.proofs.Answered.{same_terms, same_limits}
use Rattle.level_phaser.proofs.Looks.{level_alike}
use Rattle.level_phaser.proofs.Sends.{looked_level}
use Rattle.phase_modes.specs.declared.limits.Limits.{Limits}
use Rattle.phase_modes.specs.Limits.{is_between}
use Rattle.level_phaser.proofs.phaser.LevelPhaserLevelState.look.Goals as goal

pub returns-clause-kept : goal.returns-clause-kept
returns-clause-kept c =
    let k = looked_level c.args.phase c.args.task c.args.accumulator c.args.self.now.tasks.items
    c.args.self.now.phaser.story _ c.requires.ready.1 c.look-seen.ensures.history in
    let s = c.args.self.now.phaser.story in (
      k.longer,
      refl,
      (λ u live. k.all u tt live),
      ap (λ (z : Story). length z.terms.ops) c.look-seen.ensures.history
          ∙ ap (λ (t : Terms). length t.ops) (same_terms s (reply s (look c.args.task c.args.accumulator))),
    )

pub returns-clause-ready : goal.returns-clause-ready
returns-clause-ready c =
    let k = looked_level c.args.phase c.args.task c.args.accumulator c.args.self.now.tasks.items
    c.args.self.now.phaser.story _ c.requires.ready.1 c.look-seen.ensures.history in
    (c.history.ensures.legal, k.stand)

pub returns-clause-alike : goal.returns-clause-alike
returns-clause-alike c t live live' =
    level_alike c.args.phase c.args.self.now.tasks.items c.args.self.now.phaser.story t c.args.task c.args.accumulator
    c.requires.ready.1 live' live
    ∙ sym c.look-seen.ensures.reply

pub invariant_of-self : goal.invariant_of-self
invariant_of-self c =
    let d = c.args.self.now in record {
      few = d.few;
      regs = ap (λ (z : Story). is_between 1 z.limits.regs 256) c.look-seen.ensures.history
          ∙ ap (λ (l : Limits). is_between 1 l.regs 256) (same_limits d.phaser.story (reply d.phaser.story (look c.args.task c.args.accumulator))) ∙ d.regs;
    }
