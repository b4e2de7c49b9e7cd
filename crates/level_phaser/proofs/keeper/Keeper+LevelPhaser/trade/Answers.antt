use Rattle.std.proofs.Common.{rules, ◌∷◌, sym, ap, ◌∙◌}
use Rattle.atomic_table.specs.Table.{rest}
use Rattle.level_phaser.proofs.Keeping.{held_one}
use Rattle.level_phaser.proofs.Trades.{traded}
use Rattle.level_phaser.proofs.keeper.Keeper+LevelPhaser.trade.Goals as goal

pub slot_mut-value-requires : goal.slot_mut-value-requires
slot_mut-value-requires c =
    let me = c.args.self.now in
    let k = held_one me.seat.me.1 (me.behind.2 c.requires.shut) in
    (search rules, (k.0, k.1 ∙ ap (λ l. (0, k.0) ∷ l) (sym (ap rest k.1))))

pub returns-clause-taken : goal.returns-clause-taken
returns-clause-taken c =
    let me = c.args.self.now in
    let k = held_one me.seat.me.1 (me.behind.2 c.requires.shut) in
    let t = traded me.seat.me.1 k.0 _ k.1 in
    (t.0, t.1, t.2 ∙ c.swap.ensures.x_after, t.3 ∙ c.swap-2.ensures.x_after)
