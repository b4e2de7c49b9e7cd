-- What a task's thread has.
use Rattle.std.specs.Prelude.{◌≡◌, ◌≢◌, ℕ, ◌<◌, ◌≤◌, Bool, true, false, List, [], ◌∷◌}
use Rattle.atomic_table.specs.Table.{Me}
use Rattle.atomic_table.specs.Seated.{TableId}
use Rattle.phase_model.specs.declared.history.Event.{Event}
use Rattle.level_phaser.specs.declared.view.Deeds.{Deeds}
use Rattle.level_phaser.specs.declared.view.SeatedTask.{SeatedTask}
use Rattle.level_phaser.specs.declared.view.Role.{Role}
use Rattle.level_phaser.specs.declared.view.Role.TheVariants as role
use Rattle.level_phaser.specs.declared.view.SeatView.{SeatView}
use Rattle.level_phaser.specs.declared.stage.Stage.{Stage}
use Rattle.level_phaser.specs.declared.stage.Stage.TheVariants.{Stands, Waits, Gone, Stuck, Closed}
use Rattle.level_phaser.specs.Deeds.{deeds}
use Rattle.level_phaser.specs.Views.{seated_as, pending_in, fresh_in, role_after, view_of}
use Rattle.level_phaser.specs.inner.Board.{with_tasks}

-- the table has room for two words in lines of memory of their own, the rows, and one value
abbrev pub IsSized : TableId → Type 0
IsSized id = (id.words ≡ 2080) × (id.slots ≡ 1)

-- the first, alone
abbrev pub head_of : List SeatedTask → List SeatedTask
head_of [] = []
head_of (c ∷ cs) = c ∷ []

-- the others
abbrev pub tail_of : List SeatedTask → List SeatedTask
tail_of [] = []
tail_of (c ∷ cs) = cs

-- what the first of them did
abbrev pub deeds_in : List SeatedTask → Deeds
deeds_in [] = deeds 0 []
deeds_in (c ∷ cs) = c.deeds

-- a task that is done has no seat any more
abbrev pub tasks_of : Stage → ℕ → Deeds → List Event → Bool → List SeatedTask
tasks_of Stands task done es fresh = seated_as task done es fresh ∷ []
tasks_of Waits task done es fresh = seated_as task done es fresh ∷ []
tasks_of Gone task done es fresh = []
tasks_of Stuck task done es fresh = []
tasks_of Closed task done es fresh = seated_as task done es fresh ∷ []

-- none of them is this task
abbrev pub Without : ℕ → List SeatedTask → Type 0
Without t [] = Unit {0}
Without t (c ∷ cs) = (c.task ≢ t) × Without t cs

module _ {S : Type 0} where
  -- the view of a seat once the first of its tasks has another
  abbrev pub rest_of : SeatView S → SeatView S
  rest_of v = view_of (tail_of v.tasks) v.phase (role_after (tail_of v.tasks)) v.seen v.heard v.width

  -- the view of a seat for the first of its tasks
  abbrev pub first_of : SeatView S → SeatView S
  first_of v = with_tasks v (head_of v.tasks)

  -- and of one for the others
  abbrev pub others_of : SeatView S → SeatView S
  others_of v = with_tasks v (tail_of v.tasks)

  -- the role in which a task's seat is
  abbrev pub role_of : Stage → Role S
  role_of Stands = role.Stands
  role_of Waits = role.Came
  role_of Gone = role.Gone
  role_of Stuck = role.Gone
  role_of Closed = role.Came

  -- the seat is of this task and in this phase, and holds nothing; the task's row shows something only if it is said; nothing is known of a task that is stuck
  abbrev pub InStage : Stage → ℕ → ℕ → ℕ → Bool → Bool → Me S (SeatView S) → Type 0
  InStage stage task phase width is_shown is_fresh me =
      stage ≢ Stuck
      → (me.0.tasks ≡ tasks_of stage task (deeds_in me.0.tasks) (pending_in me.0.tasks) (fresh_in me.0.tasks))
      × (me.0.phase ≡ phase)
      × (me.0.role ≡ role_of stage)
      × (me.1 ≡ [])
      × (width ≤ me.0.width)
      × (is_shown ≡ false → pending_in me.0.tasks ≡ [])
      × (is_shown ≡ true → task < 256)
      × (is_fresh ≡ true → fresh_in me.0.tasks ≡ true)
