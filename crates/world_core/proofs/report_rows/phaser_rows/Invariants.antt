-- The numbers that were come to are listed and added up, and there is room for the rest.
use Rattle.std.proofs.Common.{◌≡◌, ◌*◌, ◌≤◌, map}
use Rattle.std.specs.Prelude.{vec_len, vec_capacity}
use Rattle.world_model.specs.Report.{totals_line}
use Rattle.world_model.specs.SumLines.{lines_of, IsWithin}
use Rattle.world_records.specs.inner.Reports.{story_in, made}
use Rattle.world_core.proofs.report_rows.phaser_rows.Given as goal

abbrev pub invariant-loop-number : goal.invariant-loop-number
invariant-loop-number l = record {
  lines : l.rows.lines.items ≡ map (λ n. lines_of n (story_in l.phasers n)) (made l.phasers l.number);
  totals : l.rows.totals ≡ totals_line (map (λ n. (story_in l.phasers n).past) (made l.phasers l.number));
  few : IsWithin (65536 * l.number) l.rows.totals;
  size : vec_len l.rows.lines ≤ l.number;
  room : l.count ≤ vec_capacity l.rows.lines;
}
