-- What a world keeps of one task.
use Rattle.std.specs.Prelude.{ℕ, Bool, List, Option}
use Rattle.world_records.specs.declared.plan.Plan.{Plan}

-- its plan and the numbers of the phasers that it has still to come to; the phasers on which it is registered, in order; its innermost own finish; and what else is read of it
pub record TaskState : Type 0 where
  pub plan : Plan
  pub left : List ℕ
  pub phasers : List ℕ
  pub innermost : Option ℕ
  pub clock : ℕ
  pub acts : ℕ
  pub home : ℕ
  pub spawner : ℕ
  pub is_named : Bool
  pub is_born : Bool
  pub is_ended : Bool
  pub refused : Option ℕ
