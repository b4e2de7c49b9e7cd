use Rattle.std.proofs.Common.{◌≡◌, [], ap, ◌∙◌}
use Rattle.phaser_c.proofs.LevelOpened.{settled_alone}
use Rattle.phaser_c.proofs.level_keeper.LevelKeeper.trade.Goals as goal

pub invariant_of-cell : goal.invariant_of-cell
invariant_of-cell c =
    let me = c.args.self.now in
    let w = c.as_mut.result.now in
    let nobody : me.waiting.value.cell.parked.items ≡ [] = me.nobody in
    let none_of = ap (λ z. z.cell.parked.items) c.as_mut.ensures.value ∙ nobody in record {
      kept = settled_alone c.trade.new.phaser.story w.cell.parked.items c.trade.ensures.regs c.history.ensures.legal
          c.history.ensures.ordered none_of;
      seats = w.cell.seats;
      seated = w.cell.seated;
    }

pub trade-requires-clause-regs : goal.trade-requires-clause-regs
trade-requires-clause-regs c = c.as_mut.result.now.cell.kept.regs

pub returns-clause-there : goal.returns-clause-there
returns-clause-there c =
    let d = c.trade.ensures.taken in
    (d.0, d.1, d.2 ∙ ap (λ z. z.cell.state) c.as_mut.ensures.value, d.3)
