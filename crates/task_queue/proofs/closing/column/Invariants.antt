use Rattle.std.proofs.Common.{◌≡◌, [], ℕ, ◌+◌, All, map, length}
use Rattle.crossbeam_deque.specs.Handles.{worker_deque, IsPassOf}
use Rattle.task_queue.specs.inner.Emptied.{AreRows}
use Rattle.task_queue.specs.Fair.{weigh}
use Rattle.task_queue.specs.inner.Passes.{parts_of, put_of, taken_weight}
use Rattle.task_queue.specs.Reaches.{row_weight}
use Rattle.task_queue.proofs.closing.column.Given as goal

abbrev pub invariant-loop-row : goal.invariant-loop-row
invariant-loop-row g l = record {
  kept : AreRows (map worker_deque l.fn.owns.items) l.kept.items;
  passes : All (λ p. IsPassOf (worker_deque l.fn.own) p × (parts_of p ≡ 1) × (put_of p ≡ [])) l.passes.items;
  lengths : (length l.kept.items ≡ length l.yielded) × (length l.passes.items ≡ length l.yielded);
  taken : (h : ℕ → g.row.T.Denot → ℕ) → weigh (row_weight h) l.yielded ≡ weigh (row_weight h) l.kept.items + weigh (taken_weight (h (length l.fn.owns.items))) l.passes.items;
}
