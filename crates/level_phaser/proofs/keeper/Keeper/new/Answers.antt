use Rattle.std.proofs.Common.{rules, ◌≡◌, ◌∷◌, [], List, sym, arith, subst}
use Rattle.std.proofs.lemmas.Grind.{common_steps}
use Rattle.atomic_table.specs.Table.{opening}
use Rattle.level_phaser.specs.Views.{idle_view}
use Rattle.level_phaser.specs.inner.Board.{IsBoard}
use Rattle.level_phaser.proofs.Rows.{all_clear}
use Rattle.level_phaser.proofs.Keeping.{begins_idle, takes_idle}
use Rattle.level_phaser.proofs.keeper.Keeper.new.Goals as goal

pub new-requires : goal.new-requires
new-requires g c =
    let L = g.S.LevelState in
    let slots : c.push_reserved.new.self.items ≡ c.args.spare ∷ [] = search rules in
    subst (λ (xs : List g.row.S.Denot). IsBoard L.events L.registered L.count L.width L.replies L.ready
    (opening c.as_slice.result.now xs idle_view)) (sym slots)
    (begins_idle L.events L.registered L.count L.width L.newest L.replies L.ready c.as_slice.result.now c.args.spare
    (first_of (search rules, grind (arith, common_steps)))
    (all_clear _ _ 2080 c.as_slice.ensures.value (search rules)))

pub load-requires : goal.load-requires
load-requires g c =
    let L = g.S.LevelState in (
      search rules,
      search rules,
      takes_idle L.events L.registered L.count L.width L.newest L.replies L.ready _ _ _ (search rules) (search rules),
    )
