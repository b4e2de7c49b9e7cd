use Rattle.std.proofs.Common.{◌≡◌, ◌++◌, ◌+◌, ◌-◌, All, map, length}
use Rattle.crossbeam_deque.specs.Handles.{worker_deque}
use Rattle.task_queue.specs.Accounts.{IsSeatAt, AreFresh}
use Rattle.task_queue.specs.Reaches.{reach_deque, IsSpare, IsUnused}
use Rattle.task_queue.proofs.Ordering.{AreNumbered}
use Rattle.task_queue.proofs.opening.seat_each.Given as goal

abbrev pub invariant-loop-own : goal.invariant-loop-own
invariant-loop-own g l = record {
  rows_left : length l.rows.items ≡ length l.deques.items;
  seats_made : length l.seats.items + length l.deques.items ≡ length l.initial.deques.items;
  spare : All (IsSpare (17 - length l.initial.deques.items)) l.deques.items;
  rows : All (λ row. (map reach_deque row.items ≡ map worker_deque l.initial.deques.items) × All IsUnused row.items) l.rows.items;
  same : map worker_deque l.initial.deques.items ≡ map worker_deque l.deques.items ++ map (λ s. s.own) l.seats.items;
  together : All (IsSeatAt (map worker_deque l.initial.deques.items)) l.seats.items;
  numbers : AreNumbered (length l.deques.items) l.seats.items;
  fresh : AreFresh l.seats.items;
}

abbrev pub decreases-loop-own : goal.decreases-loop-own
decreases-loop-own g l = length l.deques.items
