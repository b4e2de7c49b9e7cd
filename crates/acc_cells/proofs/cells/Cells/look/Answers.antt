use Rattle.std.proofs.Common.{◌≡◌, ◌<◌, ◌≤◌, length, arith, Some, slice_get, get_or, ap, sym, ◌∙◌}
use Rattle.std.proofs.lemmas.Option.{slice_get-get_or}
use Rattle.phase_model.specs.declared.op.Op.{Op}
use Rattle.phase_model.specs.declared.op.Op.TheVariants.{Sum}
use Rattle.acc_cells.specs.Cells.{Kept, IsKept, cell_of, fold_of_cell}
use Rattle.acc_cells.proofs.Standing.{folds_at, in_reach}
use Rattle.acc_cells.proofs.cells.Cells.look.Goals as goal

pub returns-clause-value : goal.returns-clause-value
returns-clause-value c = λ values stands.
    let k = c.args.self.now in
    let a = c.args.accumulator in
    let cell = c.cell-cell.result in
    let op : Op = get_or k.ops a Sum in
    let known : slice_get k.ops a ≡ Some op = slice_get-get_or k.ops a Sum c.requires.accumulator in
    let here : cell ≡ cell_of k a c.args.phase =
    c.cell-cell.ensures ∙ ap (λ (x : Kept). cell_of x a c.args.phase) c.self.view_is in
    let same : get_or c.as_slice.result.now a Sum ≡ op = ap (λ xs. get_or xs a Sum) c.as_slice.ensures
    ∙ ap (λ (x : Kept). get_or x.ops a Sum) c.self.view_is in
    ap (λ l. Some l) (c.fold.ensures.fold ∙ ap (λ o. fold_of_cell o cell) same)
    ∙ folds_at k values a c.args.phase op cell c.requires.kept known here stands

pub returns-clause-near : goal.returns-clause-near
returns-clause-near c =
    let k = c.args.self.now in
    let a = c.args.accumulator in
    let cell = c.cell-cell.result in
    let within : a < length k.ops = c.requires.accumulator in
    let few : length k.ops ≤ 4 = rw (← c.self.view_is) c.self.invariant.few in
    let here : cell ≡ cell_of k a c.args.phase =
    c.cell-cell.ensures ∙ ap (λ (x : Kept). cell_of x a c.args.phase) c.self.view_is in
    let kept : IsKept k.ops k.room k.from k.rows k.sums = rw (← c.self.view_is) c.self.invariant in
    in_reach k a c.args.phase cell c.fold.result (omega (arith, within, few)) kept here c.fold.ensures.near
