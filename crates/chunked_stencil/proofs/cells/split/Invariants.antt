use Rattle.std.proofs.Common.{map}
use Rattle.chunked_stencil.proofs.Walk.{IsSplit}
use Rattle.chunked_stencil.proofs.cells.split.Given as goal

abbrev pub invariant-loop-piece : goal.invariant-loop-piece
invariant-loop-piece l = IsSplit (map (λ piece. piece.cells.items) l.pieces.items) l.rest l._piece l.row
