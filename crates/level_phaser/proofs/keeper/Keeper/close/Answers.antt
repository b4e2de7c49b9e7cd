use Rattle.std.proofs.Common.{rules, ◌≡◌, ◌+◌, ◌%◌, ◌<◌, ℕ, ap, ◌∙◌, subst, arith}
use Rattle.std.proofs.lemmas.Grind.{common_steps}
use Rattle.level_phaser.proofs.Keeping.{shuts}
use Rattle.level_phaser.proofs.Stages.{lent}
use Rattle.level_phaser.proofs.keeper.Keeper.close.Goals as goal

pub store-requires : goal.store-requires
store-requires g c =
    let L = g.S.LevelState in
    let me = c.args.self.now in
    let took = c.seize.ensures.seized c.if-not-seize.false in
    let is = took.1 in
    let z = c.slot_mut.result.now in
    let same = lent _ _ _ (ap (λ m. m.1) is) c.slot_mut.ensures.value in
    let p = c.seize.new.seat.me.0.phase in
    let phase : c.phase-phase.result ≡ p = c.phase-phase.ensures.phase p
    (subst (λ (x : g.row.S.Denot). L.ready p x) same took.2) (subst (λ (x : g.row.S.Denot). 0 < L.count x) same took.3) in
    let small : c.phase-phase.result < 18446744073709551616 = first_of (search rules, grind (arith, common_steps)) in (
      search rules,
      search rules,
      shuts L.events L.registered L.count L.width L.newest L.replies L.ready _ _ _ took.0 _ (ap (λ m. m.0.role) is) (ap (λ m. m.0.tasks) is ∙ (me.behind.1 c.requires).1)
          (subst (λ (n : ℕ). n < 18446744073709551616) phase small)
          (ap (λ (n : ℕ). (n + 1) % 18446744073709551616) phase),
    )
