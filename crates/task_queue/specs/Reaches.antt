-- A stealer with a pass of its deque.
use Rattle.std.specs.Prelude.{◌≡◌, ℕ, [], List, map}
use Rattle.std.specs.declared.alloc.Global.{Global}
use Rattle.std.specs.declared.vec.Vec.{Vec}
use Rattle.atomic_blocks.specs.Lent.{RowsId}
use Rattle.crossbeam_deque.specs.Handles.{view, IsPassOf, stealer_deque, stealer_flavor, worker_view, worker_flavor}
use Rattle.task_queue.specs.Fair.{each_from, hand}
use Rattle.task_queue.specs.declared.rule.Hand.{Hand}
use Rattle.crossbeam_deque.specs.declared.handles.Worker.{Worker}
use Rattle.task_queue.specs.declared.reach.Reach.{Reach}

module _ {T : Type 0} where
  -- which deque it is
  abbrev pub reach_deque : Reach T → RowsId × Global
  reach_deque r = stealer_deque r.thief

  -- the pass is one of its stealer's deque, has a part, and has put nothing
  abbrev pub IsReach : Reach T → Type 0
  IsReach r =
      IsPassOf (stealer_deque r.thief) r.pass × (stealer_flavor r.thief ≡ 0) × ((view r.pass).parts ≡ 1)
      × ((view r.pass).put ≡ [])

  -- what was stolen
  abbrev pub stolen_of : Reach T → List T
  stolen_of r = (view r.pass).taken

  -- a deque in which nothing has happened, with so many parts left
  abbrev pub IsSpare : {P : Type 0} → ℕ → Worker T Global (Hand T) P → Type 0
  IsSpare k d = (worker_view d ≡ hand k [] []) × (worker_flavor d ≡ 0)

  -- a reach that has taken nothing
  abbrev pub IsUnused : Reach T → Type 0
  IsUnused r = IsReach r × (view r.pass ≡ hand 1 [] [])

  -- what the items weigh that a seat has stolen, from each deque in turn
  abbrev pub row_weight : (ℕ → T → ℕ) → Vec (Reach T) Global → ℕ
  row_weight h row = each_from 0 h (map stolen_of row.items)
