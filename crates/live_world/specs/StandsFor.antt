-- Which histories a live world stands for. In a history no number comes twice.
use Rattle.std.specs.Prelude.{ℕ, ◌≡◌, ◌≤◌, ◌==◌, true, false, List, ◌∷◌, All, Some}
use Rattle.finish_core.specs.declared.event.FinishEvent.TheVariants.{Shut as Shutting}
use Rattle.finish_core.specs.Finish.{is_open}
use Rattle.world_model.specs.declared.event.WorldEvent.{WorldEvent}
use Rattle.world_model.specs.declared.event.WorldEvent.TheVariants.{Finish}
use Rattle.world_model.specs.Due.{due}
use Rattle.world_model.specs.Numbers.{is_named, is_finish}
use Rattle.world_model.specs.Parts.{finish_past}
use Rattle.world_model.specs.Replies.{is_legal_world}
use Rattle.world_model.specs.Tasks.{is_born, is_ended}
use Rattle.task_standing.specs.Histories.{IsAbout}
use Rattle.live_world.specs.declared.at.FinishAt.{FinishAt}
use Rattle.live_world.specs.Counts.{alive}
use Rattle.live_world.specs.Live.{TaskLine, FinishLine, LiveState, live_limits, task_at, finish_at, known_of}

-- the finish of this name is in its slot
abbrev pub IsIn : LiveState → FinishAt → Type 0
IsIn s f = ((finish_at s f.slot).taken ≡ true) × ((finish_at s f.slot).number ≡ f.number)

-- the task of slot i waits to shut a finish in which a task goes on, and that finish knows the slot
pub record IsParked (w : List WorldEvent) (s : LiveState) (i : ℕ) (k : TaskLine) : Type 0 where
  pub at : FinishAt
  pub rest : List WorldEvent
  pub due_is : due k.number w ≡ Finish at.number Shutting ∷ rest
  pub there : IsIn s at
  pub going : ((finish_at s at.slot).alive == 0) ≡ false
  pub waiter : (finish_at s at.slot).waiter ≡ Some i

-- slot i has a task that was born and goes on, and that knows what the history says; its finishes are there; it is parked
-- only if it waits
pub record TaskStands (w : List WorldEvent) (s : LiveState) (i : ℕ) (k : TaskLine) : Type 0 where
  pub born : is_born k.number w ≡ true
  pub goes_on : is_ended k.number w ≡ false
  pub about : IsAbout w (known_of k)
  pub home : IsIn s k.home
  pub opened : All (IsIn s) k.finishes
  pub parked : k.parked ≡ true → IsParked w s i k

-- a slot has a finish that is open, and its count is that of its tasks that go on
pub record FinishStands (w : List WorldEvent) (k : FinishLine) : Type 0 where
  pub is_open : is_open (finish_past k.number w) ≡ true
  pub alive : k.alive ≡ alive (finish_past k.number w)

-- a live world stands for a legal history if its slots are what the history says, each task that goes on has one slot,
-- no two slots have one number, and no number from the next one on was ever given
pub record StandsFor (w : List WorldEvent) (s : LiveState) : Type 0 where
  pub legal : is_legal_world live_limits w ≡ true
  pub tasks : (i : ℕ) → (task_at s i).taken ≡ true → TaskStands w s i (task_at s i)
  pub finishes : (i : ℕ) → (finish_at s i).taken ≡ true → FinishStands w (finish_at s i)
  pub tasks_apart : (i j : ℕ) → (task_at s i).taken ≡ true → (task_at s j).taken ≡ true
      → (task_at s i).number ≡ (task_at s j).number → i ≡ j
  pub finishes_apart : (i j : ℕ) → (finish_at s i).taken ≡ true → (finish_at s j).taken ≡ true
      → (finish_at s i).number ≡ (finish_at s j).number → i ≡ j
  pub here : (t : ℕ) → is_born t w ≡ true → is_ended t w ≡ false
      → (i : ℕ) × ((task_at s i).taken ≡ true) × ((task_at s i).number ≡ t)
  pub unnamed : (t : ℕ) → s.next_task ≤ t → is_named t w ≡ false
  pub unopened : (f : ℕ) → s.next_finish ≤ f → is_finish f w ≡ false
