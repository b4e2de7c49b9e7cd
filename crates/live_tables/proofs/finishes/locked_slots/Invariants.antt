use Rattle.std.proofs.Common.{◌≡◌, vec_len, vec_capacity}
use Rattle.live_tables.proofs.finishes.locked_slots.Given as goal

abbrev pub invariant-loop-number : goal.invariant-loop-number
invariant-loop-number g l = record {
  cells : vec_len l.cells ≡ l.number;
  room : vec_capacity l.cells ≡ vec_capacity l.initial.cells;
}
