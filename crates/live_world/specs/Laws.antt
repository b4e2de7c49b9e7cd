-- What holds of each live world.
use Rattle.std.specs.Prelude.{ℕ, ◌≡◌, true, false, List}
use Rattle.world_model.specs.declared.event.WorldEvent.{WorldEvent}
use Rattle.world_model.specs.Tasks.{is_ended}
use Rattle.live_world.specs.Live.{LiveState, live_limits, task_at}
use Rattle.live_world.specs.StandsFor.{StandsFor}
use Rattle.live_world.specs.Waits.{Waits}

-- whoever is parked waits: the next event of such a task is answered not yet
abbrev pub ParkedTasksWait : Type 0
ParkedTasksWait = (w : List WorldEvent) (s : LiveState) → StandsFor w s → (i : ℕ) → (task_at s i).taken ≡ true
    → (task_at s i).parked ≡ true → Waits live_limits w (task_at s i).number

-- as long as the root goes on, some task is there that isn't parked
abbrev pub NotAllAreParked : Type 0
NotAllAreParked = (w : List WorldEvent) (s : LiveState) → StandsFor w s → is_ended 0 w ≡ false
    → (i : ℕ) × ((task_at s i).taken ≡ true) × ((task_at s i).parked ≡ false)
