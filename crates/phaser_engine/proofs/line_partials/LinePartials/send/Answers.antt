use Rattle.std.proofs.Common.{◌≡◌, ◌<◌, List, length, set, get_or, take, ap, sym, ◌∙◌, arith, rules}
use Rattle.acc_cells.specs.declared.cell.Cell.{Cell}
use Rattle.acc_cells.specs.Cells.{no_partial}
use Rattle.std.proofs.lemmas.List.{get_or-take, get_or_read, length-take-le}
use Rattle.phaser_engine.specs.Lazy.{partial_with}
use Rattle.phaser_engine.proofs.InUse.{set_in_use}
use Rattle.phaser_engine.proofs.line_partials.LinePartials.send.Goals as goal

pub returns : goal.returns
returns c =
    let p = c.self.inside in
    let xs : List (List Cell) = p.all.items in
    let i = c.args.place in
    let a = c.args.accumulator in
    let v = c.args.value in
    let was : List Cell = c.index_mut-partial.result.now in
    let among : i < length (take p.used xs) = rw (← c.self.view_is) at c.requires.place in
    let long : length (take p.used xs) ≡ p.used = length-take-le p.used xs c.self.invariant.within in
    let sent : c.send.new.self ≡ partial_with a v was = search rules in
    let same : was ≡ get_or (take p.used xs) i no_partial =
    get_or_read xs i was (omega (arith, among, long, c.self.invariant.within))
    c.index_mut-partial.ensures.value no_partial
    ∙ sym (get_or-take p.used xs i no_partial (omega (arith, among, long)))
    in
    rw (← c.self.view_is)
    (ap (λ (q : List Cell). take p.used (set xs i q)) sent
    ∙ (set_in_use p.used xs i (partial_with a v was)
    ∙ ap (λ (q : List Cell). set (take p.used xs) i (partial_with a v q)) same))
