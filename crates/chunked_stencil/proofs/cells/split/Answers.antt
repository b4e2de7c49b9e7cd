use Rattle.std.proofs.Common.{◌<◌, ◌≤◌, length, map, arith}
use Rattle.std.proofs.lemmas.List.{map-append}
use Rattle.chunked_stencil.proofs.Walk.{splits_on}
use Rattle.chunked_stencil.proofs.cells.split.Goals as goal

pub loop-piece-preserved : goal.loop-piece-preserved
loop-piece-preserved c =
    let some : 0 < c.min.result = grind (arith, c.min.ensures, c.if-is_empty.ensures, c.requires.size) in
    let within : c.min.result ≤ length c.loop-piece.rest.now = omega (arith, c.min.ensures) in
    let on = splits_on (map (λ piece. piece.cells.items) c.loop-piece.pieces.items) c.loop-piece.rest.now
    c.loop-piece._piece c.args.row.now c.min.result c.loop-piece.invariant some within in
    let more = c.in_ok-push.ensures.items in
    let cells = c.in_ok-cells.ensures.items in
    rw (more, map-append, cells, c.split_at.ensures.front, c.split_at.ensures.back) on
