use Rattle.std.proofs.Common.{◌≡◌, ◌∷◌, ℕ, refl, sym, ap, ◌∙◌, subst, arith}
use Rattle.atomic_table.specs.Table.{rest}
use Rattle.level_phaser.specs.inner.Foldings.{Folding}
use Rattle.level_phaser.proofs.Foldings.{folding_seat}
use Rattle.level_phaser.proofs.Stages.{lent}
use Rattle.level_phaser.proofs.folds.write_folds.Goals as goal

pub slot_mut-requires : goal.slot_mut-requires
slot_mut-requires g c =
    let k = c.requires.folds.1 in
    (c.requires.table.0, (k.now, k.has ∙ ap (λ l. (0, k.now) ∷ rest l) (sym k.has)))

pub loop-accumulator-init : goal.loop-accumulator-init
loop-accumulator-init g c =
    let L = g.S.LevelState in
    let k = c.requires.folds.1 in
    let z = c.slot_mut.result.now in
    let same = lent _ _ _ k.has c.slot_mut.ensures.value in
    let wide : c.requires.folds.0 ≡ c.width-width.result =
    sym k.wide ∙ sym k.kept.3 ∙ ap L.width same ∙ sym c.width-width.ensures.0 in (
      refl,
      subst (λ (w : ℕ). Folding L.events L.registered L.count L.width L.replies L.ready w 0 c.args.phase
          (c.args.seat.now.me.0, (0, z) ∷ rest c.args.seat.now.me.1)) wide
          (folding_seat L.events L.registered L.count L.width L.newest L.replies L.ready _ _ _ _ _ k z same
          (ap (λ l. (0, z) ∷ rest l) k.has)),
      (c.args.seat.now.me.0.role, refl),
    )

pub returns-clause-folds : goal.returns-clause-folds
returns-clause-folds g c =
    let L = g.S.LevelState in
    let done = c.loop-accumulator-test.false in
    let end = c.loop-accumulator.auto.accumulator-end in
    let at : c.loop-accumulator.accumulator ≡ c.width-width.result = omega arith in (
      (
        c.width-width.result,
        subst (λ (n : ℕ). Folding L.events L.registered L.count L.width L.replies L.ready c.width-width.result n c.args.phase
            c.loop-accumulator.seat.me) at c.loop-accumulator.invariant.1,
        c.width-width.ensures.1,
      ),
      c.loop-accumulator.invariant.2,
    )
