-- The histories of which laws on bodies speak: those in which tasks go by a body, and nobody is refused.
use Rattle.std.specs.Prelude.{ℕ, ◌≡◌, true, List, None}
use Rattle.phase_modes.specs.declared.limits.Limits.{Limits}
use Rattle.job_script.specs.declared.act.Answer.{Answer}
use Rattle.world_model.specs.declared.event.WorldEvent.{WorldEvent}
use Rattle.world_model.specs.Replies.{is_legal_world}
use Rattle.world_model.specs.Report.{refused_by}
use Rattle.world_model.specs.Tasks.{is_ended}
use Rattle.trace_walk.specs.Going.{goes_by}
use Rattle.trace_walk.specs.Walking.{Does}

-- the history is legal, its tasks go by this body, and none of them was refused or gave up
pub record IsSmooth {B : Type 0} (next : Answer → B → Does B) (root : B) (l : Limits) (w : List WorldEvent) : Type 0 where
  pub legal : is_legal_world l w ≡ true
  pub goes : goes_by next root w ≡ true
  pub unrefused : (t : ℕ) → refused_by t w ≡ None

-- and the root has ended
pub record IsWhole {B : Type 0} (next : Answer → B → Does B) (root : B) (l : Limits) (w : List WorldEvent) : Type 0 where
  pub smooth : IsSmooth next root l w
  pub ended : is_ended 0 w ≡ true
