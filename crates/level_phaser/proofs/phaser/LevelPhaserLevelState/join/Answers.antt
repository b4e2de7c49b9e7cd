use Rattle.std.proofs.Common.{rules, ap, length, arith}
use Rattle.std.proofs.lemmas.Grind.{common_steps}
use Rattle.phase_model.specs.declared.terms.Terms.{Terms}
use Rattle.level_phaser.proofs.phaser.LevelPhaserLevelState.join.Goals as goal

pub returns-clause-joined : goal.returns-clause-joined
returns-clause-joined c =
    let some = c.in_ok-task.ensures.some in
    let k = some.0 in
    let next = some.2 in (
      (
        k.longer,
        first_of (search rules, grind (arith, common_steps)),
        k.fresh,
        k.there,
        k.did,
        k.others,
        ap (λ (t : Terms). length t.ops) k.terms,
      ),
      omega arith,
      first_of (search rules, grind (arith, common_steps)),
    )
