use Rattle.std.proofs.Common.{◌<◌, ◌≤◌, List, length, ap, arith}
use Rattle.std.proofs.lemmas.List.Edits.{length-insert}
use Rattle.acc_cells.specs.declared.cell.Cell.{Cell}
use Rattle.acc_cells.specs.Cells.{no_partial}
use Rattle.reg_table.specs.declared.table.Entry.{Entry}
use Rattle.phaser_engine.specs.Line.{stands_at, waits_at}
use Rattle.phaser_engine.proofs.Counting.{rear_few, signals_once, waits_once, roll_insert}
use Rattle.phaser_engine.proofs.roll.Roll.insert.Goals as goal

pub with_signaller-self-inside-requires-clause-few : goal.with_signaller-self-inside-requires-clause-few
with_signaller-self-inside-requires-clause-few c =
    let i = c.self.invariant.0 in
    rear_few stands_at signals_once c.self.inside.table c.self.inside.signallers i.signalled i.few

pub with_waiter-self-inside-requires : goal.with_waiter-self-inside-requires
with_waiter-self-inside-requires c =
    let i = c.self.invariant.0 in
    rear_few waits_at waits_once c.self.inside.table c.self.inside.waiters i.passed i.few

pub invariant_of-self : goal.invariant_of-self
invariant_of-self c =
    let r = c.self.inside in
    let place = c.args.place in
    let x = c.args.entry in
    let room : length r.table < 256 = rw (← c.self.view_is) at c.requires.room in
    let inside : place ≤ length r.table = rw (← c.self.view_is) at c.requires.place.within in (
      rw c.insert.ensures
          (roll_insert r.table r.signallers r.waiters c.with_signaller-self-inside.result
          c.with_waiter-self-inside.result place x c.self.invariant.0 room inside
          c.with_signaller-self-inside.ensures c.with_waiter-self-inside.ensures),
      omega (
        arith,
        ap (λ (xs : List (List Cell)). length xs) c.insert-2.ensures,
        length-insert r.partials place no_partial (omega (arith, inside, c.self.invariant.1)),
        ap (λ (xs : List Entry). length xs) c.insert.ensures,
        length-insert r.table place x inside,
        c.self.invariant.1,
      ),
    )
