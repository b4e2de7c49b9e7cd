use Rattle.std.proofs.Common.{◌≡◌, ◌≤◌, drop, length}
use Rattle.serde_json.specs.View.{items_view}
use Rattle.job_script.specs.Words.{op_in, all_in}
use Rattle.job_script.proofs.Loops.{front_with}
use Rattle.job_script.proofs.items.ops_named.Given as goal

abbrev pub invariant-loop-item : goal.invariant-loop-item
invariant-loop-item l = record {
  so_far : front_with l.ops (all_in op_in (items_view (drop l.item-index l.items))) ≡ all_in op_in (items_view l.items);
  few : length l.ops ≤ 4;
}
