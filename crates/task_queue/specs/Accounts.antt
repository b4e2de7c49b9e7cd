-- What seats put, what they took, and what is left.
use Rattle.std.specs.Prelude.{◌≡◌, ℕ, ◌+◌, ◌<◌, List, [], ◌∷◌, ◌++◌, ◌⊎◌, All, Contains, map, length, set, get_or}
use Rattle.std.specs.List.{flat_map}
use Rattle.std.specs.declared.alloc.Global.{Global}
use Rattle.atomic_blocks.specs.Lent.{RowsId}
use Rattle.task_queue.specs.Account.{Account}
use Rattle.task_queue.specs.Fair.{weigh}

module _ {T : Type 0} where
  -- the same seat, of the same deques
  abbrev pub IsSeatOf : Account T → Account T → Type 0
  IsSeatOf old new = (new.worker ≡ old.worker) × (new.own ≡ old.own) × (new.deques ≡ old.deques)

  -- nothing was put and nothing taken
  abbrev pub IsSame : Account T → Account T → Type 0
  IsSame old new =
      IsSeatOf old new × (new.put ≡ old.put) × (new.popped ≡ old.popped) × (new.stolen ≡ old.stolen)

  -- x was put, and nothing taken
  abbrev pub HasPut : Account T → T → Account T → Type 0
  HasPut old x new =
      IsSeatOf old new × (new.put ≡ old.put ++ x ∷ []) × (new.popped ≡ old.popped) × (new.stolen ≡ old.stolen)

  -- one of the lists is longer by x
  abbrev pub IsOneMore : List (List T) → T → List (List T) → Type 0
  IsOneMore old x new = (k : ℕ) × (k < length old) × (new ≡ set old k (get_or old k [] ++ x ∷ []))

  -- x was taken, from its own deque or from another, and nothing put
  abbrev pub HasTaken : Account T → T → Account T → Type 0
  HasTaken old x new =
      IsSeatOf old new × (new.put ≡ old.put)
      × (((new.popped ≡ old.popped ++ x ∷ []) × (new.stolen ≡ old.stolen))
      ⊎ ((new.popped ≡ old.popped) × IsOneMore old.stolen x new.stolen))

  -- a seat at these deques, of which its own stands at its worker's place
  abbrev pub IsSeatAt : List (RowsId × Global) → Account T → Type 0
  IsSeatAt deques s = (s.deques ≡ deques) × (s.own ≡ get_or deques s.worker s.own)

  -- each worker's seat is among them
  abbrev pub HaveAll : List (Account T) → Type 0
  HaveAll seats = (k : ℕ) → k < length seats → Contains (map (λ s. s.worker) seats) k

  -- the seats of all workers of one queue, in whatever order
  abbrev pub AreTogether : List (Account T) → Type 0
  AreTogether seats =
      (deques : List (RowsId × Global)) × (length deques ≡ length seats) × All (IsSeatAt deques) seats
      × HaveAll seats

  -- nobody has put or taken anything
  abbrev pub AreFresh : List (Account T) → Type 0
  AreFresh seats = All (λ s. (s.put ≡ []) × (s.popped ≡ []) × All (λ l. l ≡ []) s.stolen) seats

  -- what the items weigh that all seats together took from the deque of worker k
  abbrev pub stolen_weight : (T → ℕ) → ℕ → List (Account T) → ℕ
  stolen_weight h k seats = weigh (λ t. weigh h (get_or t.stolen k [])) seats

  -- what was put into this seat's deque is what its owner popped, what the seats took by stealing, and what it
  -- holds, each as often: that is so however the items are weighed
  abbrev pub IsBalanced : List (Account T) → List (List T) → Account T → Type 0
  IsBalanced seats held s =
      (h : T → ℕ) → weigh h s.put
      ≡ weigh h s.popped + stolen_weight h s.worker seats + weigh h (get_or held s.worker [])

  -- queue conservation: what is left is what the deques hold, one after another, and each deque is balanced
  abbrev pub IsConserved : List (Account T) → List T → Type 0
  IsConserved seats rest =
      (held : List (List T)) × (rest ≡ flat_map (λ l. l) held) × (length held ≡ length seats)
      × All (IsBalanced seats held) seats
