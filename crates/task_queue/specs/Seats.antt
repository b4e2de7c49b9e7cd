-- What a seat is made of.
use Rattle.std.specs.Prelude.{◌≡◌, ℕ, ◌+◌, ◌<◌, List, map, All, length}
use Rattle.std.specs.declared.alloc.Global.{Global}
use Rattle.crossbeam_deque.specs.Handles.{worker_view, worker_deque, worker_flavor}
use Rattle.crossbeam_deque.specs.declared.handles.Worker.{Worker}
use Rattle.task_queue.specs.declared.rule.Hand.{Hand}
use Rattle.task_queue.specs.declared.reach.Reach.{Reach}
use Rattle.task_queue.specs.Reaches.{reach_deque, IsReach, stolen_of}
use Rattle.task_queue.specs.Account.{Account}

module _ {T P : Type 0} where
  abbrev pub account_of : ℕ → Worker T Global (Hand T) P → List (Reach T) → Account T
  account_of worker own reaches = record {
    worker = worker;
    own = worker_deque own;
    deques = map reach_deque reaches;
    put = (worker_view own).put;
    popped = (worker_view own).taken;
    stolen = map stolen_of reaches;
  }

  -- with a part of each deque, and of its own the parts that are left
  abbrev pub IsSeated : ℕ → Worker T Global (Hand T) P → List (Reach T) → Type 0
  IsSeated worker own reaches =
      (worker < length reaches) × ((worker_view own).parts + length reaches ≡ 17)
      × (0 < (worker_view own).parts)
      × (worker_flavor own ≡ 0) × All IsReach reaches
