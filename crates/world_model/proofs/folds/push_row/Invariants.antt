-- The lines of the accumulators so far stand there, and there is room for the rest.
use Rattle.std.proofs.Common.{◌≡◌, ◌+◌, ◌≤◌, ◌++◌, [], length, take}
use Rattle.std.specs.Prelude.{vec_capacity, vec_len}
use Rattle.world_model.specs.Report.{folds_from}
use Rattle.world_model.proofs.folds.push_row.Given as goal

abbrev pub invariant-loop-accumulator : goal.invariant-loop-accumulator
invariant-loop-accumulator l = record {
  lines : l.lines.items ≡ l.initial.lines.items ++ folds_from l.phase 0 (take l.accumulator l.ops) [];
  size : vec_len l.lines ≡ vec_len l.initial.lines + l.accumulator;
  room : vec_len l.initial.lines + length l.ops ≤ vec_capacity l.lines;
}
