use Rattle.std.proofs.Common.{◌≡◌, ◌<◌, List, length, ap, ◌∙◌, arith}
use Rattle.std.specs.List.{remove}
use Rattle.std.proofs.lemmas.List.Edits.{length-remove}
use Rattle.std.proofs.lemmas.Option.{IfSome_then, slice_get_within}
use Rattle.acc_cells.specs.declared.cell.Cell.{Cell}
use Rattle.reg_table.specs.declared.table.Entry.{Entry}
use Rattle.phaser_engine.specs.Line.{stands_at, waits_at, signallers_at, waiters_at}
use Rattle.phaser_engine.proofs.Counting.{counted_remove}
use Rattle.phaser_engine.proofs.roll.Roll.remove.Goals as goal

pub hindmost_signallers-self-inside-requires-clause-known : goal.hindmost_signallers-self-inside-requires-clause-known
hindmost_signallers-self-inside-requires-clause-known c =
    let r = c.self.inside in
    let k = c.args.place in
    let lines : c.lines.result.now ≡ remove r.table k = c.lines.ensures.lines ∙ c.remove.ensures in
    rw lines
    (IfSome_then c.without_signaller-signallers.result c.without_signaller-signallers.ensures
    (λ rear left. left (signallers_at r.table) (signallers_at (remove r.table k)) c.self.invariant.0.signalled
    (counted_remove stands_at r.table k c.get.result c.get.ensures.line)))

pub hindmost_waiters-self-inside-requires-clause-known : goal.hindmost_waiters-self-inside-requires-clause-known
hindmost_waiters-self-inside-requires-clause-known c =
    let r = c.self.inside in
    let k = c.args.place in
    let lines : c.lines-2.result.now ≡ remove r.table k = c.lines-2.ensures.lines ∙ c.remove.ensures in
    rw lines
    (IfSome_then c.without_waiter-waiters.result c.without_waiter-waiters.ensures
    (λ rear left. left (waiters_at r.table) (waiters_at (remove r.table k)) c.self.invariant.0.passed
    (counted_remove waits_at r.table k c.get.result c.get.ensures.line)))

pub invariant_of-self : goal.invariant_of-self
invariant_of-self c =
    let r = c.self.inside in
    let place = c.args.place in
    let inside : place < length r.table = slice_get_within r.table place c.get.result c.get.ensures.line in
    let size = length-remove r.table place inside in (
      record {
        few = omega (
          arith,
          c.self.invariant.0.few,
          size,
          ap (λ (xs : List Entry). length xs) c.remove.ensures,
        );
        signalled = rw c.lines.ensures.lines at c.hindmost_signallers-self-inside.ensures;
        passed = rw c.lines-2.ensures.lines at c.hindmost_waiters-self-inside.ensures;
      },
      omega (
        arith,
        ap (λ (xs : List (List Cell)). length xs) c.remove-2.ensures,
        length-remove r.partials place (omega (arith, inside, c.self.invariant.1)),
        ap (λ (xs : List Entry). length xs) c.remove.ensures,
        size,
        c.self.invariant.1,
      ),
    )
