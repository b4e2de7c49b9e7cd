-- The tables have a line for each number.
use Rattle.std.specs.Prelude.{ℕ, ◌≡◌, true, List, Option, length}
use Rattle.phase_modes.specs.declared.limits.Limits.{Limits}
use Rattle.phase_modes.specs.Limits.{limits_fit}
use Rattle.phase_model.specs.Rules.{Story}
use Rattle.finish_core.specs.Finish.{FinishStory}
use Rattle.world_records.specs.TaskState.{TaskState}

pub record IsSized (l : Limits) (phasers : List Story) (enclosing : List ℕ) (finishes : List FinishStory)
    (owners : List ℕ) (outers : List (Option ℕ)) (tasks : List TaskState) : Type 0 where
  pub fit : limits_fit l ≡ true
  pub phasers_size : length phasers ≡ l.phasers
  pub enclosing_size : length enclosing ≡ l.phasers
  pub finishes_size : length finishes ≡ l.finishes
  pub owners_size : length owners ≡ l.finishes
  pub outers_size : length outers ≡ l.finishes
  pub tasks_size : length tasks ≡ l.tasks
