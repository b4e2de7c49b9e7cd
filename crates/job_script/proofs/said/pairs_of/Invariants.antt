use Rattle.std.proofs.Common.{◌≡◌, ◌≤◌, drop, length, map}
use Rattle.serde_json.specs.View.{items_view}
use Rattle.job_script.specs.inner.SaidViews.{pair_view}
use Rattle.job_script.specs.Words.{all_in}
use Rattle.job_script.proofs.Loops.{front_with}
use Rattle.job_script.specs.ActForms.{pair_in}
use Rattle.job_script.proofs.said.pairs_of.Given as goal

abbrev pub invariant-loop-item : goal.invariant-loop-item
invariant-loop-item l = record {
  so_far : front_with (map pair_view l.pairs.items) (all_in pair_in (items_view (drop l.item-index l.items))) ≡ all_in pair_in (items_view l.items);
  few : length l.pairs.items ≤ 16;
}
