use Rattle.std.proofs.Common.{◌≡◌, All, map, length}
use Rattle.crossbeam_deque.specs.Handles.{worker_deque}
use Rattle.task_queue.specs.inner.Emptied.{IsWholeBut, AreRows}
use Rattle.task_queue.proofs.Emptying.{IsPartOf}
use Rattle.task_queue.proofs.closing.empty_all.Given as goal

abbrev pub invariant-loop-own : goal.invariant-loop-own
invariant-loop-own g l = record {
  owns : All (IsWholeBut (length l.initial.rows.items)) l.owns.items;
  lengths : length l.rows.items ≡ length l.initial.rows.items;
  rows : AreRows (map worker_deque l.owns.items) l.rows.items;
  rest : IsPartOf l.initial.owns.items l.initial.rows.items l.owns.items l.rows.items l.rest.items;
}

abbrev pub decreases-loop-own : goal.decreases-loop-own
decreases-loop-own g l = length l.owns.items
