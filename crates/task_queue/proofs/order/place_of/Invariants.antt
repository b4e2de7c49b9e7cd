use Rattle.std.proofs.Common.{◌≢◌, ◌<◌, ℕ}
use Rattle.std.specs.List.{HoldsAt}
use Rattle.task_queue.proofs.order.place_of.Given as goal

abbrev pub invariant-loop-at : goal.invariant-loop-at
invariant-loop-at g l = (k : ℕ) → k < l.at → HoldsAt (λ s. s.worker ≢ l.worker) l.seats k
