use Rattle.std.proofs.Common.{◌<◌, length, refl, ap, sym, ◌∙◌, arith}
use Rattle.std.proofs.lemmas.Option.{slice_get_read, slice_get_within, same_Some}
use Rattle.reg_table.specs.declared.table.Entry.{Entry}
use Rattle.reg_table.specs.Lines.{IsLineOf}
use Rattle.reg_table.proofs.Absent.{absent_from_place, place_among_all}
use Rattle.reg_table.proofs.table.Table.find_by_halving.Goals as goal

pub search-requires-clause-counted : goal.search-requires-clause-counted
search-requires-clause-counted c = (
  9,
  omega (arith, c.len-lines.ensures, c.self.inside.lines.ok.0, c.self.invariant.few),
  omega (arith, c.requires),
)

pub index-requires : goal.index-requires
index-requires c =
    let xs = c.self.inside.lines.items in
    let found : IsLineOf c.args.task xs c.in-Ok.found = rw c.deref.ensures.value at c.in-Ok.ensures.found in
    omega (
      arith,
      slice_get_within xs c.in-Ok.found found.line found.here,
      c.self.inside.lines.ok.0,
    )

pub returns-in-Ok-clause-some : goal.returns-in-Ok-clause-some
returns-in-Ok-clause-some c =
    let xs = c.self.inside.lines.items in
    let found : IsLineOf c.args.task xs c.in-Ok.found = rw c.deref.ensures.value at c.in-Ok.ensures.found in
    rw (← c.self.view_is)
    (slice_get_read xs (length xs) c.in-Ok.found c.index.result.now refl
    (slice_get_within xs c.in-Ok.found found.line found.here) c.index.ensures)

pub returns-in-Ok-clause-task : goal.returns-in-Ok-clause-task
returns-in-Ok-clause-task c =
    let xs = c.self.inside.lines.items in
    let found : IsLineOf c.args.task xs c.in-Ok.found = rw c.deref.ensures.value at c.in-Ok.ensures.found in
    let read =
    slice_get_read xs (length xs) c.in-Ok.found c.index.result.now refl
    (slice_get_within xs c.in-Ok.found found.line found.here) c.index.ensures in
    ap (λ (e : Entry). e.task) (same_Some c.index.result.now found.line (sym read ∙ found.here))
    ∙ found.task

pub returns-in-Ok-clause-count : goal.returns-in-Ok-clause-count
returns-in-Ok-clause-count c =
    omega (
      arith,
      c.search.ensures.count 9
          (omega (arith, c.len-lines.ensures, c.self.inside.lines.ok.0, c.self.invariant.few)),
    )

pub returns-in-Ok-clause-few : goal.returns-in-Ok-clause-few
returns-in-Ok-clause-few c = λ few.
    let room : length c.self.inside.lines.items < 256 = rw (← c.self.view_is) at few in
    omega (
      arith,
      c.search.ensures.count 8 (omega (arith, c.len-lines.ensures, c.self.inside.lines.ok.0, room)),
    )

pub returns-in-Err-clause-none : goal.returns-in-Err-clause-none
returns-in-Err-clause-none c =
    let xs = c.self.inside.lines.items in
    rw (← c.self.view_is)
    (absent_from_place c.args.task xs c.in-Err.field-0
    (place_among_all c.args.task c.len-lines.result xs c.in-Err.field-0
    (omega (arith, c.len-lines.ensures, c.self.inside.lines.ok.0))
    (rw c.deref.ensures.value at c.in-Err.ensures.absent)))

pub returns-in-Err-clause-count : goal.returns-in-Err-clause-count
returns-in-Err-clause-count c =
    omega (
      arith,
      c.search.ensures.count 9
          (omega (arith, c.len-lines.ensures, c.self.inside.lines.ok.0, c.self.invariant.few)),
    )

pub returns-in-Err-clause-few : goal.returns-in-Err-clause-few
returns-in-Err-clause-few c = λ few.
    let room : length c.self.inside.lines.items < 256 = rw (← c.self.view_is) at few in
    omega (
      arith,
      c.search.ensures.count 8 (omega (arith, c.len-lines.ensures, c.self.inside.lines.ok.0, room)),
    )
