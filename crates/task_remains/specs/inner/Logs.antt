-- The tasks whose logs are gathered.
use Rattle.std.specs.Prelude.{◌≡◌, ℕ, ◌<◌, true, List, All, length}
use Rattle.phase_modes.specs.Numbers.{Numbers, has_number}
use Rattle.phase_model.specs.Rules.{Story}
use Rattle.trace_model.specs.Projections.{log, AreOf}
use Rattle.trace_model.specs.Run.{Entry}
use Rattle.table_receipts.specs.Logs.{Sight}
use Rattle.told_history.specs.Stories.{GoesOn}
use Rattle.table_receipts.specs.Seen.{story_at, IsNamed}
use Rattle.task_remains.specs.Remaining.{AreLogsOf, AreDifferent}
use Rattle.tasks_in_flight.specs.Heard.{Seen}
use Rattle.tasks_in_flight.specs.Said.{has_end, IsSeenBy}

-- each part is the log of a task of its own, which is in the set
abbrev pub AreGathered : Numbers → List (List Entry) → Type 0
AreGathered set parts =
    (owners : List ℕ) × AreLogsOf owners parts × AreDifferent owners × All (λ t. has_number set t ≡ true) owners

-- there is a log for each phaser, with its name
abbrev pub AreAllLogs : (ℕ → ℕ) → ℕ → List Sight → Type 0
AreAllLogs names phasers logs = IsNamed names logs × (length logs ≡ phasers)

-- of what begins the stories that these logs tell, and begins this part, that is told of the task
abbrev pub IsToldOfStart : (ℕ → Seen → Type 0) → ℕ → List Sight → List Entry → Type 0
IsToldOfStart Told task logs part =
    (stories : ℕ → Story)
    × IsSeenBy task (Told task) part stories
    × ((n : ℕ) → n < length logs → GoesOn (stories n) (story_at logs n))

-- if this is supposed, that is told of the task of this part, if the part has its end
abbrev pub IsToldIn : Type 0 → (ℕ → Seen → Type 0) → List Sight → List Entry → Type 0
IsToldIn P Told logs part =
    (task : ℕ) → AreOf (log task) part → has_end part ≡ true → ∥ (P → IsToldOfStart Told task logs part) ∥₁
