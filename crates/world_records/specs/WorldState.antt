-- What a world keeps, by number.
use Rattle.std.specs.Prelude.{ℕ, List, Option}
use Rattle.phase_modes.specs.declared.limits.Limits.{Limits}
use Rattle.phase_model.specs.Rules.{Story}
use Rattle.finish_core.specs.Finish.{FinishStory}
use Rattle.world_records.specs.TaskState.{TaskState}

-- the phasers' and the finishes' own stories; the finish that encloses each phaser; each finish's owner, and the finish that the owner had open before; and the tasks
pub record WorldState : Type 0 where
  pub limits : Limits
  pub phasers : List Story
  pub enclosing : List ℕ
  pub finishes : List FinishStory
  pub owners : List ℕ
  pub outers : List (Option ℕ)
  pub tasks : List TaskState
