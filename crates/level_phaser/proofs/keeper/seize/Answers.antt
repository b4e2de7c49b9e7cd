use Rattle.std.proofs.Common.{◌<◌, ℕ, refl, sym, subst, arith}
use Rattle.level_phaser.proofs.Keeping.{seizes}
use Rattle.level_phaser.proofs.keeper.seize.Goals as goal

pub compare_exchange-requires : goal.compare_exchange-requires
compare_exchange-requires g c =
    let L = g.S.LevelState in
    let not0 = c.if-missing-eq0.false in
    let less = c.if-missing-ge-BUSY.false in (
      c.requires.table.0,
      subst (λ (n : ℕ). 0 < n) (sym c.requires.table.1.0) (omega arith),
      seizes L.events L.registered L.count L.width L.newest L.replies L.ready _ _ _ _ _ (omega arith) less refl
          c.requires.gone.0 c.requires.gone.1 c.requires.gone.2,
    )
