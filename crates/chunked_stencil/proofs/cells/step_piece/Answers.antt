use Rattle.std.proofs.Common.{ℕ, ◌≡◌, ◌<◌, ◌+◌, ◌-◌, length, subst, arith}
use Rattle.chunked_stencil.proofs.Walk.{HasCome, goes_on, is_done}
use Rattle.chunked_stencil.proofs.cells.step_piece.Goals as goal

pub loop-place-preserved : goal.loop-place-preserved
loop-place-preserved c =
    let next : c.loop-place.place + 1 < length c.loop-place.piece =
    omega (arith, c.loop-place-test.true, c.loop-place.auto.piece) in
    goes_on c.args.left c.args.right c.loop-place.before c.loop-place.place c.weighed.result c.args.piece.now
    c.loop-place.piece c.loop-place.invariant next c.weighed.ensures.cell c.weighed.ensures.most

pub returns-clause-cells : goal.returns-clause-cells
returns-clause-cells c =
    let last = length c.args.piece.now - 1 in
    let here : c.loop-place.place ≡ last =
    omega (arith, c.loop-place-test.false, c.loop-place.auto.place-end) in
    let At : ℕ → Type 0 =
    λ place. HasCome c.args.left c.args.right c.loop-place.before place c.args.piece.now c.loop-place.piece in
    is_done c.args.left c.args.right c.loop-place.before last c.weighed-2.result c.args.piece.now
    c.loop-place.piece (subst At here c.loop-place.invariant)
    (omega (arith, c.requires.some, c.loop-place.auto.piece)) c.weighed-2.ensures.cell
