-- The numbers that were come to are listed, and there is room for the rest.
use Rattle.std.proofs.Common.{◌≡◌, ◌≤◌, map}
use Rattle.std.specs.Prelude.{vec_len, vec_capacity}
use Rattle.world_records.specs.inner.Reports.{opened, finish_row}
use Rattle.world_core.proofs.report_rows.finish_rows.Given as goal

abbrev pub invariant-loop-number : goal.invariant-loop-number
invariant-loop-number l = record {
  lines : l.rows.items ≡ map (finish_row l.finishes) (opened l.finishes l.number);
  size : vec_len l.rows ≤ l.number;
  room : l.count ≤ vec_capacity l.rows;
}
