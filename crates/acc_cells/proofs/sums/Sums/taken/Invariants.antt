-- The sums are those with the first cells more.
use Rattle.std.proofs.Common.{◌≡◌, take}
use Rattle.acc_cells.specs.Cells.{sums_taken, AreSumsInRange}
use Rattle.acc_cells.proofs.sums.Sums.taken.Given as goal

abbrev pub invariant-loop-accumulator : goal.invariant-loop-accumulator
invariant-loop-accumulator l = record {
  sums : l.sums ≡ sums_taken (take l.accumulator l.cells) l.fn.self;
  in_range : AreSumsInRange l.sums;
}
