use Rattle.std.proofs.Common.{ap, length, ◌+◌, ℕ, List, refl, sym, subst, arith}
use Rattle.phase_model.specs.declared.terms.Terms.{Terms}
use Rattle.level_phaser.specs.LevelPhasers.{IsReady}
use Rattle.level_phaser.proofs.phaser.LevelPhaserLevelState.make_round.Goals as goal

pub turn_all-requires : goal.turn_all-requires
turn_all-requires c =
    let d = c.args.self.now in
    let few = d.few in
    let len = c.as_slice.ensures.len in (
      subst (λ (ts : List ℕ). IsReady c.args.phase ts d.phaser.story) (sym c.as_slice.ensures.value)
          c.requires.ready,
      omega arith,
    )

pub returns-clause-round : goal.returns-clause-round
returns-clause-round c whole =
    let k = c.turn_all.ensures.made whole in
    (k.longer, refl, k.each, ap (λ (t : Terms). length t.ops) k.terms)

pub returns-clause-all : goal.returns-clause-all
returns-clause-all c t live = c.requires.ready.1.all t live

pub returns-clause-ready : goal.returns-clause-ready
returns-clause-ready c whole =
    subst (λ (ts : List ℕ). IsReady (c.args.phase + 1) ts c.turn_all.new.phaser.story)
    c.as_slice.ensures.value (c.turn_all.ensures.made whole).ready
