use Rattle.std.proofs.Common.{◌≡◌, ◌-◌, ◌==◌, false, length, Some, slice_get, refl, ap, sym, ◌∙◌, arith}
use Rattle.std.proofs.lemmas.Bool.{ne_eqb}
use Rattle.std.proofs.lemmas.Option.{slice_get_read, same_Some}
use Rattle.reg_table.specs.declared.table.Entry.{Entry}
use Rattle.reg_table.proofs.Absent.{number_from}
use Rattle.reg_table.proofs.Orders.{other_number}
use Rattle.reg_table.proofs.table.Table.last_of.Goals as goal

pub returns-then-task-last-clause-none : goal.returns-then-task-last-clause-none
returns-then-task-last-clause-none c =
    let xs = c.self.inside.lines.items in
    let long : c.len-lines.result ≡ length xs =
    omega (arith, c.len-lines.ensures, c.self.inside.lines.ok.0) in
    rw (← c.self.view_is)
    (λ e at.
    ne_eqb e.task c.args.task (λ same.
    omega (
      arith,
      same,
      long,
      c.if-task-last.true,
      number_from xs c.self.invariant.ascending (length xs - 1) e at,
    )))

pub returns-in-Equal-clause-some : goal.returns-in-Equal-clause-some
returns-in-Equal-clause-some c =
    let xs = c.self.inside.lines.items in
    let long : c.len-lines.result ≡ length xs =
    omega (arith, c.len-lines.ensures, c.self.inside.lines.ok.0) in
    let end : c.len-lines.result - 1 ≡ length xs - 1 = omega (arith, long) in
    rw (← c.self.view_is)
    (ap (λ n. slice_get xs n) (sym end)
    ∙ slice_get_read xs (length xs) (c.len-lines.result - 1) c.index-in-Equal.result.now refl
    (omega (arith, long, c.if-lines-eq0.false)) c.index-in-Equal.ensures)

pub returns-in_default-clause-none : goal.returns-in_default-clause-none
returns-in_default-clause-none c =
    let xs = c.self.inside.lines.items in
    let long : c.len-lines.result ≡ length xs =
    omega (arith, c.len-lines.ensures, c.self.inside.lines.ok.0) in
    let end : c.len-lines.result - 1 ≡ length xs - 1 = omega (arith, long) in
    let line : Entry = c.index.result.now in
    let here : slice_get xs (length xs - 1) ≡ Some line =
    ap (λ n. slice_get xs n) (sym end)
    ∙ slice_get_read xs (length xs) (c.len-lines.result - 1) line refl
    (omega (arith, long, c.if-lines-eq0.false)) c.index.ensures in
    let other : (line.task == c.args.task) ≡ false =
    ap (λ n. line.task == n) (sym c.of.ensures)
    ∙ other_number c.compare.result line.task c.of.result c.compare.ensures.order c.in_default.not-Equal in
    rw (← c.self.view_is)
    (λ e at. ap (λ (x : Entry). x.task == c.args.task) (same_Some e line (sym at ∙ here)) ∙ other)
