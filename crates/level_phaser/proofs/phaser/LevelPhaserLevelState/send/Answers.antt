use Rattle.std.proofs.Common.{ℕ, ◌≤◌, subst, refl, ap, length, sym, ◌∙◌, w32}
use Rattle.std.proofs.lemmas.Int.{to_z-of_z}
use Rattle.phase_model.specs.declared.call.Call.TheVariants.{Send as send}
use Rattle.phase_model.specs.declared.terms.Terms.{Terms}
use Rattle.phase_model.specs.Rules.{Story}
use Rattle.phase_model.specs.Replies.{reply}
use Rattle.level_phaser.proofs.Answered.{refused_kept, same_terms, same_limits}
use Rattle.level_phaser.proofs.Refused.{full_if_refused}
use Rattle.level_phaser.proofs.Sends.{sent_level, kept_level}
use Rattle.phase_modes.specs.declared.limits.Limits.{Limits}
use Rattle.phase_modes.specs.Limits.{is_between}
use Rattle.level_phaser.proofs.phaser.LevelPhaserLevelState.send.Goals as goal

pub returns-in-Ok-clause-sent : goal.returns-in-Ok-clause-sent
returns-in-Ok-clause-sent c =
    let round = to_z-of_z w32 c.args.value c.ranges.value in
    let k = sent_level c.args.phase c.args.task c.args.accumulator c.args.value c.args.self.now.tasks.items
    c.args.self.now.phaser.story _ c.requires.ready.1
    (rw round at c.send-outcome.ensures.history) (sym (rw round at c.in-Ok.ensures.reply)) in
    let s = c.args.self.now.phaser.story in (
      k.newest,
      refl,
      k.sender,
      k.others,
      ap (λ (z : Story). length z.terms.ops) c.send-outcome.ensures.history
          ∙ ap (λ (t : Terms). length t.ops) (same_terms s (reply s (send c.args.task c.args.accumulator _))),
    )

pub returns-in-Ok-clause-ready : goal.returns-in-Ok-clause-ready
returns-in-Ok-clause-ready c =
    let k = sent_level c.args.phase c.args.task c.args.accumulator _ c.args.self.now.tasks.items
    c.args.self.now.phaser.story _ c.requires.ready.1
    c.send-outcome.ensures.history (sym c.in-Ok.ensures.reply) in
    (c.history.ensures.legal, k.stand)

pub returns-in-Err-clause-refused : goal.returns-in-Err-clause-refused
returns-in-Err-clause-refused c =
    let round = to_z-of_z w32 c.args.value c.ranges.value in
    let s = c.args.self.now.phaser.story in
    let why = sym (rw round at c.in-Err.ensures.reply) in
    let k = kept_level c.args.phase c.args.self.now.tasks.items s _ c.requires.ready.1
    ((rw round at c.send-outcome.ensures.history)
    ∙ refused_kept s (reply s (send c.args.task c.args.accumulator c.args.value)) _ why) in (
      (
        k.longer,
        refl,
        (λ u live. k.all u tt live),
        ap (λ (z : Story). length z.terms.ops) c.send-outcome.ensures.history
            ∙ ap (λ (t : Terms). length t.ops) (same_terms s (reply s (send c.args.task c.args.accumulator _))),
      ),
      why,
    )

pub returns-in-Err-clause-ready : goal.returns-in-Err-clause-ready
returns-in-Err-clause-ready c =
    let round = to_z-of_z w32 c.args.value c.ranges.value in
    let s = c.args.self.now.phaser.story in
    let why = sym (rw round at c.in-Err.ensures.reply) in
    let k = kept_level c.args.phase c.args.self.now.tasks.items s _ c.requires.ready.1
    ((rw round at c.send-outcome.ensures.history)
    ∙ refused_kept s (reply s (send c.args.task c.args.accumulator c.args.value)) _ why) in
    (c.history.ensures.legal, k.stand)

pub returns-in-Err-clause-full : goal.returns-in-Err-clause-full
returns-in-Err-clause-full c live names =
    let d = c.args.self.now in
    let few = d.few in
    let len = d.tasks.ok in
    full_if_refused c.args.phase d.tasks.items d.phaser.story c.args.task c.args.accumulator _ _ c.requires.ready live names
    (subst (λ (n : ℕ). n ≤ 256) d.tasks.ok.0 d.few) (sym c.in-Err.ensures.reply)

pub invariant_of-self : goal.invariant_of-self
invariant_of-self c =
    let d = c.args.self.now in record {
      few = d.few;
      regs = ap (λ (z : Story). is_between 1 z.limits.regs 256) c.send-outcome.ensures.history
          ∙ ap (λ (l : Limits). is_between 1 l.regs 256) (same_limits d.phaser.story (reply d.phaser.story (send c.args.task c.args.accumulator _))) ∙ d.regs;
    }
