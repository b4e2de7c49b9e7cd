-- What a task in flight knows of itself.
use Rattle.std.specs.Prelude.{ℕ, List}
use Rattle.task_standing.specs.declared.held.Held.{Held}
use Rattle.task_standing.specs.declared.plan.Plan.{Plan}

-- its number, and what it is about; the phasers that it holds, in the order in which it got them; its own
-- open finishes, the innermost first; the finish in which it was spawned; and how many acts it has begun
pub record Known : Type 0 where
  pub number : ℕ
  pub plan : Plan
  pub holding : List Held
  pub finishes : List ℕ
  pub home : ℕ
  pub acts : ℕ
