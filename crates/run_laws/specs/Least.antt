-- Beside one whole run in which each kind of number is drawn by one task alone, in order: if always the least
-- numbers are drawn, no rule needs to be named.
use Rattle.std.specs.Prelude.{ℕ, ◌≡◌, true, List, None}
use Rattle.phase_modes.specs.declared.limits.Limits.{Limits}
use Rattle.job_script.specs.declared.act.Answer.{Answer}
use Rattle.world_model.specs.declared.event.WorldEvent.{WorldEvent}
use Rattle.world_model.specs.Replies.{is_legal_world}
use Rattle.world_model.specs.Report.{report_of, refused_by}
use Rattle.world_model.specs.Tasks.{is_ended}
use Rattle.trace_walk.specs.Going.{goes_by}
use Rattle.trace_walk.specs.Walking.{Does}
use Rattle.trace_walk.specs.Whole.{IsSmooth}
use Rattle.run_laws.specs.Telling.{draws_by, draws_least, in_order}
use Rattle.run_laws.specs.Determinacy.{IsRun}
use Rattle.run_laws.specs.Memory.{has_memory, is_roomy}

-- beside one such run: in another history of the same bodies in which nobody was refused up to now, and the
-- least numbers were drawn, they were drawn in order too
abbrev pub LeastIsInOrder : {B : Type 0} → (Answer → B → Does B) → Type 0
LeastIsInOrder {B = B} next =
    (root : B) (l : Limits) (v w : List WorldEvent)
    → IsRun next root in_order l v → IsSmooth next root l w → draws_least l w ≡ true
    → draws_by in_order w ≡ true

-- so beside one such run that is roomy, in each other history of the same bodies in which the least numbers are
-- drawn, and which has memory, nobody is refused or gives up at all; and if its root has ended, its report is the
-- same
abbrev pub LeastHangsOnMemoryAlone : {B : Type 0} → (Answer → B → Does B) → Type 0
LeastHangsOnMemoryAlone {B = B} next =
    (root : B) (l : Limits) (v w : List WorldEvent)
    → IsRun next root in_order l v → is_roomy l v ≡ true
    → is_legal_world l w ≡ true → goes_by next root w ≡ true → draws_least l w ≡ true → has_memory l w ≡ true
    → ((t : ℕ) → refused_by t w ≡ None) × (is_ended 0 w ≡ true → report_of l v ≡ report_of l w)
