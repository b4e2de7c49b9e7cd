use Rattle.std.proofs.Common.{◌<◌, ℕ, List, vec_len, sym, ap, ◌∙◌, subst}
use Rattle.level_phaser.specs.LevelPhasers.{IsReady}
use Rattle.phaser_core.specs.declared.long_phaser.LongPhaser.{LongPhaser}
use Rattle.phaser_c.proofs.LevelOpened.{opens_to}
use Rattle.phaser_c.proofs.level_keeper.LevelKeeper.open.Goals as goal

pub open-requires-clause-level : goal.open-requires-clause-level
open-requires-clause-level c =
    let w = c.args.self.now.waiting.value in
    let given = c.requires.tasks in
    let ts = c.args.numbers.items in
    let may = opens_to ts w.cell w.cell.kept.legal given.2 in
    let d = c.trade.ensures.there in
    let items = ap (λ v. v.items) d.3 ∙ given.0 in (
      d.0,
      d.1,
      (
        may.3,
        subst (λ (z : LongPhaser × List ℕ). IsReady may.3 z.1 z.0.story) (λ k. (sym d.2 k, sym items k))
            (w.cell.kept.legal, may.4),
      ),
      subst (λ (n : ℕ). 0 < n) (sym (ap (λ v. vec_len v) d.3 ∙ given.1)) may.1,
      sym items,
    )
