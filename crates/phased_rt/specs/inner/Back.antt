-- The seats that workers hand back.
use Rattle.std.specs.Prelude.{◌≡◌, ℕ, ◌<◌, List, Result, Ok, map, length, get_or}
use Rattle.task_queue.specs.Account.{Account}
use Rattle.task_queue.specs.Accounts.{IsSeatOf}

-- at each place stands the same worker's seat
pub record AreBack {T : Type 0} (given back : List (Account T)) : Type 0 where
  pub as_many : length back ≡ length given
  pub each : (k : ℕ) (d d' : Account T) → k < length given → IsSeatOf (get_or given k d) (get_or back k d')

-- all have answered Ok, each with this seat
abbrev pub AreSeatsIn : {W E T : Type 0} → (W → Account T) → List (Result W E) → List (Account T) → Type 0
AreSeatsIn {W} seat rs seats = (ws : List W) × (rs ≡ map Ok ws) × (seats ≡ map seat ws)
