use Rattle.std.proofs.Common.{◌≡◌, ◌≤◌, drop, length}
use Rattle.serde_json.specs.View.{items_view}
use Rattle.job_script.specs.Words.{all_in}
use Rattle.trace_text.specs.Form.{pair_in}
use Rattle.job_script.proofs.Loops.{front_with}
use Rattle.trace_text.proofs.reading.act.all_pairs.Given as goal

abbrev pub invariant-loop-item : goal.invariant-loop-item
invariant-loop-item l = record {
  so_far : front_with l.pairs (all_in pair_in (items_view (drop l.item-index l.items))) ≡ all_in pair_in (items_view l.items);
  few : length l.pairs ≤ 16;
}
