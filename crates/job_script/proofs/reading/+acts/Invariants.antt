use Rattle.std.proofs.Common.{◌≡◌, ◌<◌, drop, ◌+◌, ◌*◌, None}
use Rattle.serde_json.specs.View.{items_view}
use Rattle.job_script.specs.Acts.{flat_length, too_many}
use Rattle.job_script.specs.Form.{acts_in, nothing_read}
use Rattle.job_script.specs.inner.ReadViews.{list_view}
use Rattle.job_script.proofs.reading.+acts.Given as goal

abbrev pub invariant-acts_of-loop-value : goal.invariant-acts_of-loop-value
invariant-acts_of-loop-value l = record {
  so_far : acts_in l.depth (list_view l.list l.seen) (items_view (drop l.value-index l.items)) ≡ acts_in l.depth (nothing_read l.first l.fn.seen) (items_view l.items);
  short : l.list.passing ≡ None → flat_length l.list.body < too_many;
}

abbrev pub decreases-act_of : goal.decreases-act_of
decreases-act_of l = 2 * l.depth

abbrev pub decreases-acts_of : goal.decreases-acts_of
decreases-acts_of l = 2 * l.depth + 1
