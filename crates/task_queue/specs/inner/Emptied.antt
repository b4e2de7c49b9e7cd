-- What deques still hold, once all passes are back.
use Rattle.std.specs.Prelude.{◌≡◌, ℕ, ◌+◌, ◌<◌, List, ◌∷◌, ◌++◌, map, All, Contains, length, get_or}
use Rattle.std.specs.List.{flat_map}
use Rattle.std.specs.declared.alloc.Global.{Global}
use Rattle.std.specs.declared.vec.Vec.{Vec}
use Rattle.atomic_blocks.specs.Lent.{RowsId}
use Rattle.crossbeam_deque.specs.Handles.{worker_view, worker_deque, worker_flavor}
use Rattle.crossbeam_deque.specs.declared.handles.Worker.{Worker}
use Rattle.task_queue.specs.declared.rule.Hand.{Hand}
use Rattle.task_queue.specs.declared.reach.Reach.{Reach}
use Rattle.task_queue.specs.Account.{Account}
use Rattle.task_queue.specs.Fair.{weigh, each_from}
use Rattle.task_queue.specs.Reaches.{reach_deque, IsReach, row_weight}

-- each row reaches these deques in turn
module _ {T : Type 0} where
  abbrev pub AreRows : List (RowsId × Global) → List (Vec (Reach T) Global) → Type 0
  AreRows deques rows = All (λ row. (map reach_deque row.items ≡ deques) × All IsReach row.items) rows

module _ {T P : Type 0} where
  -- what the owner put
  abbrev pub own_put : Worker T Global (Hand T) P → List T
  own_put d = (worker_view d).put

  -- what the owner took
  abbrev pub own_taken : Worker T Global (Hand T) P → List T
  own_taken d = (worker_view d).taken

  -- all its parts but n are here
  abbrev pub IsWholeBut : ℕ → Worker T Global (Hand T) P → Type 0
  IsWholeBut n d = ((worker_view d).parts + n ≡ 17) × (0 < (worker_view d).parts) × (worker_flavor d ≡ 0)

  -- the deque at place k, whose passes leave the rows, held what now stands before the rest
  abbrev pub IsEmptied : ℕ → Worker T Global (Hand T) P → List (Vec (Reach T) Global)
      → List (Vec (Reach T) Global) → List T → List T → Type 0
  IsEmptied k own rows kept rest all =
      (held : List T) × (all ≡ held ++ rest)
      × ((h : ℕ → T → ℕ) → weigh (h k) (worker_view own).put + weigh (row_weight h) kept
      ≡ weigh (h k) (worker_view own).taken + weigh (row_weight h) rows + weigh (h k) held)

  -- the rest is what these deques held, each in turn
  abbrev pub IsRestOf : List (Worker T Global (Hand T) P) → List (Vec (Reach T) Global) → List T → Type 0
  IsRestOf owns rows rest =
      (held : List (List T)) × (rest ≡ flat_map (λ l. l) held) × (length held ≡ length owns)
      × ((h : ℕ → T → ℕ) → each_from 0 h (map own_put owns)
      ≡ each_from 0 h (map own_taken owns) + weigh (row_weight h) rows + each_from 0 h held)

  -- the deques and rows of these seats
  abbrev pub AreApart : List (Account T) → List (Worker T Global (Hand T) P) → List (Vec (Reach T) Global) → Type 0
  AreApart seats owns rows =
      (map worker_deque owns ≡ map (λ s. s.own) seats) × (map own_put owns ≡ map (λ s. s.put) seats)
      × (map own_taken owns ≡ map (λ s. s.popped) seats)
      × ((h : ℕ → T → ℕ) → weigh (row_weight h) rows ≡ weigh (λ s. each_from 0 h s.stolen) seats)

module _ {T : Type 0} where
  -- the deques that these seats can reach are their own, in their order
  abbrev pub AreInOrder : List (Account T) → Type 0
  AreInOrder seats = All (λ s. s.deques ≡ map (λ t. t.own) seats) seats

  -- the same seats, in their workers' order
  abbrev pub IsOrdered : List (Account T) → List (Account T) → Type 0
  IsOrdered seats ordered =
      (length ordered ≡ length seats) × All (Contains seats) ordered
      × ((k : ℕ) (d : Account T) → k < length ordered → (get_or ordered k d).worker ≡ k)
      × ((f : Account T → ℕ) → weigh f seats ≡ weigh f ordered)
      × All (λ s. (s.worker < length seats) × (get_or ordered s.worker s ≡ s)) seats

  -- one seat is out of the list
  abbrev pub IsOut : List (Account T) → Account T → List (Account T) → Type 0
  IsOut seats s rest =
      (before : List (Account T)) × (after : List (Account T)) × (seats ≡ before ++ s ∷ after)
      × (rest ≡ before ++ after)
