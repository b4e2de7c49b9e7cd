use Rattle.std.proofs.Common.{◌≡◌, ◌-◌, ◌<◌, List, length, ap, arith}
use Rattle.std.specs.List.{remove}
use Rattle.std.proofs.lemmas.List.Edits.{length-remove}
use Rattle.std.proofs.lemmas.Option.{slice_get_within}
use Rattle.acc_cells.specs.declared.cell.Cell.{Cell}
use Rattle.reg_table.specs.declared.table.Entry.{Entry}
use Rattle.phaser_engine.specs.Line.{stands_at, waits_at, signallers_at, waiters_at}
use Rattle.phaser_engine.proofs.Counting.{counted_remove}
use Rattle.phaser_engine.proofs.roll.Roll.pop.Goals as goal

pub invariant_of-self : goal.invariant_of-self
invariant_of-self c =
    let r = c.self.inside in
    let i = c.self.invariant.0 in
    let end = c.len-last.result - 1 in
    let x = c.get.result in
    let at_end : end ≡ length r.table - 1 = omega (arith, c.len-last.ensures.length) in
    let inside : end < length r.table = slice_get_within r.table end x c.get.ensures.line in
    let size = length-remove r.table end inside in (
      rw (c.pop.ensures, ← at_end)
          (record {
            few = omega (arith, i.few, size);
            signalled = c.in-Some.ensures (signallers_at r.table) (signallers_at (remove r.table end))
                i.signalled (counted_remove stands_at r.table end x c.get.ensures.line);
            passed = c.in-Some-without_waiter.ensures (waiters_at r.table) (waiters_at (remove r.table end))
                i.passed (counted_remove waits_at r.table end x c.get.ensures.line);
          }),
      omega (
        arith,
        ap (λ (xs : List (List Cell)). length xs) c.pop-2.ensures,
        length-remove r.partials (length r.partials - 1) (omega (arith, inside, c.self.invariant.1)),
        ap (λ (xs : List Entry). length xs) c.pop.ensures,
        length-remove r.table (length r.table - 1) (omega (arith, inside)),
        c.self.invariant.1,
        inside,
      ),
    )
