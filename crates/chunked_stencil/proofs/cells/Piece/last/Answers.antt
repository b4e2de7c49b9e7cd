use Rattle.std.proofs.Common.{◌≡◌, ◌<◌, ◌-◌, ◌∙◌, length, arith}
use Rattle.chunked_stencil.proofs.Walk.{last_is}
use Rattle.chunked_stencil.proofs.cells.Piece.last.Goals as goal

pub returns-clause-cell : goal.returns-clause-cell
returns-clause-cell c =
    let cells = c.args.self.now.cells.items in
    let some : 0 < length cells = omega (arith, c.args.self.now.some, c.args.self.now.cells.ok.0) in
    let place : c.len.result - 1 ≡ length cells - 1 =
    omega (arith, c.len.ensures, c.args.self.now.cells.ok.0) in
    (rw place at c.index.ensures) ∙ last_is 0 cells c.index.result.now some
