use Rattle.std.proofs.Common.{◌≡◌, ◌+◌, take, length, ap, ◌∙◌, arith}
use Rattle.acc_cells.specs.declared.sums.Sums.{Sums}
use Rattle.acc_cells.specs.Cells.{held}
use Rattle.acc_cells.proofs.Taking.{taken_values, taken_rest, held_within}
use Rattle.acc_cells.proofs.sums.Sums.taken.Goals as goal

pub joined-sums-requires-clause-room : goal.joined-sums-requires-clause-room
joined-sums-requires-clause-room c =
    let l = c.loop-accumulator in
    let cs = c.args.cells.now in
    let so_far : l.sums.values ≡ c.args.self.values + held (take l.accumulator cs) =
    ap (λ (s : Sums). s.values) l.invariant.sums ∙ taken_values (take l.accumulator cs) c.args.self in
    omega (arith, so_far, held_within cs l.accumulator, c.requires.room)

pub returns-clause-sums : goal.returns-clause-sums
returns-clause-sums c =
    let l = c.loop-accumulator in
    let cs = c.args.cells.now in
    let four : length cs ≡ 4 = c.told-cells in
    l.invariant.sums
    ∙ taken_rest cs l.accumulator c.args.self
    (λ a far near. c.requires.known a (omega (arith, far, c.loop-accumulator-test.false)) (omega (arith, near, four)))
