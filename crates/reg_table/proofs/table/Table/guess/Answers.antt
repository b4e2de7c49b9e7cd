use Rattle.std.proofs.Common.{◌≡◌, ◌<◌, ◌==◌, false, length, Some, slice_get, refl, ap, sym, ◌∙◌, arith}
use Rattle.std.proofs.lemmas.Option.{slice_get_read, same_Some}
use Rattle.reg_table.specs.declared.table.Entry.{Entry}
use Rattle.reg_table.specs.Lines.{IsFirstGuess}
use Rattle.reg_table.proofs.Absent.{one_guess}
use Rattle.reg_table.proofs.Orders.{other_number}
use Rattle.reg_table.proofs.table.Table.guess.Goals as goal

pub returns-in_default-clause-none : goal.returns-in_default-clause-none
returns-in_default-clause-none c =
    let xs = c.self.inside.lines.items in
    let g = c.first_guess-place.result in
    let t = c.args.task in
    let line : Entry = c.index.result.now in
    let is : IsFirstGuess t xs g = rw c.deref.ensures.value at c.first_guess-place.ensures.guess in
    let inside : g < length xs = rw c.deref.ensures.value at c.first_guess-place.ensures.within in
    let here : slice_get xs g ≡ Some line = slice_get_read xs (length xs) g line refl inside c.index.ensures in
    let other : (line.task == t) ≡ false =
    ap (λ n. line.task == n) (sym c.of.ensures)
    ∙ other_number c.compare.result line.task c.of.result c.compare.ensures.order
    c.in_default.not-Equal in
    rw (← c.self.view_is)
    (λ h e guess at.
    ap (λ (x : Entry). x.task == t)
    (same_Some e line
    (sym at ∙ (ap (λ n. slice_get xs n) (one_guess t xs g h (omega (arith, inside)) is guess) ∙ here)))
    ∙ other)
