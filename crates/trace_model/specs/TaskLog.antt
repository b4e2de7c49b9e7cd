-- The log of a task.
use Rattle.std.specs.Prelude.{ℕ, ◌+◌, Bool, nat_lt, List, length}
use Rattle.trace_model.specs.Run.{Entry}

-- how many acts it has room for, and its entries with their tickets, the oldest first
pub record TaskLog : Type 0 where
  pub acts : ℕ
  pub entries : List Entry

-- an entry for each act, and two more for the end
abbrev pub has_room : TaskLog → Bool
has_room l = nat_lt (length l.entries) (l.acts + 2)
