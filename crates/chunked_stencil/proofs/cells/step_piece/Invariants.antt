use Rattle.chunked_stencil.proofs.Walk.{HasCome}
use Rattle.chunked_stencil.proofs.cells.step_piece.Given as goal

abbrev pub invariant-loop-place : goal.invariant-loop-place
invariant-loop-place l = HasCome l.left l.right l.before l.place l.initial.piece l.piece
