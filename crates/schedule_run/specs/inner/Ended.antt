-- What is known of tasks that have ended.
use Rattle.std.specs.Prelude.{ℕ, ◌≡◌, ◌+◌, ◌<◌, true, List, Option, Some, None, slice_get}
use Rattle.world_model.specs.declared.event.WorldEvent.{WorldEvent}
use Rattle.world_model.specs.Tasks.{is_ended}

-- of a number past the list nothing is known
abbrev pub known : Option ℕ → ℕ
known None = 0
known (Some n) = n

-- from each number on so many tasks have ended
abbrev pub HaveEnded : List WorldEvent → List ℕ → Type 0
HaveEnded w runs = (t i : ℕ) → i < known (slice_get runs t) → is_ended (t + i) w ≡ true
