use Rattle.std.proofs.Common.{◌≡◌, ℕ, ◌+◌, ◌++◌, All, map, length}
use Rattle.crossbeam_deque.specs.Handles.{worker_deque}
use Rattle.task_queue.specs.Fair.{weigh, each_from}
use Rattle.task_queue.specs.Reaches.{row_weight}
use Rattle.task_queue.specs.inner.Emptied.{IsWholeBut, AreRows, own_put, own_taken}
use Rattle.task_queue.proofs.closing.apart.Given as goal

abbrev pub invariant-loop-seat : goal.invariant-loop-seat
invariant-loop-seat g l = record {
  together : All (λ s. s.deques ≡ map (λ t. t.own) l.initial.seats.items) l.seats.items;
  whole : All (IsWholeBut (length l.initial.seats.items)) l.owns.items;
  rows : AreRows (map (λ s. s.own) l.initial.seats.items) l.rows.items;
  lengths : length l.rows.items + length l.seats.items ≡ length l.initial.seats.items;
  own : map (λ s. s.own) l.initial.seats.items ≡ map (λ s. s.own) l.seats.items ++ map worker_deque l.owns.items;
  put : map (λ s. s.put) l.initial.seats.items ≡ map (λ s. s.put) l.seats.items ++ map own_put l.owns.items;
  taken : map (λ s. s.popped) l.initial.seats.items ≡ map (λ s. s.popped) l.seats.items ++ map own_taken l.owns.items;
  stolen : (h : ℕ → g.row.T.Denot → ℕ) → weigh (λ s. each_from 0 h s.stolen) l.initial.seats.items ≡ weigh (λ s. each_from 0 h s.stolen) l.seats.items + weigh (row_weight h) l.rows.items;
}

abbrev pub decreases-loop-seat : goal.decreases-loop-seat
decreases-loop-seat g l = length l.seats.items
