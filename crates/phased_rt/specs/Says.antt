-- What bodies say of a run's trace.
use Rattle.std.specs.Prelude.{◌≡◌, ℕ, true, List, reverse}
use Rattle.phase_modes.specs.declared.limits.Limits.{Limits}
use Rattle.phase_model.specs.Rules.{Story}
use Rattle.world_model.specs.Parts.{phaser_past, terms_of}
use Rattle.trace_model.specs.Explained.{past}
use Rattle.trace_model.specs.Projections.{log, projection}
use Rattle.trace_model.specs.Run.{Entry}
use Rattle.table_receipts.specs.Parts.{HasShown}
use Rattle.tasks_in_flight.specs.Said.{Saying, IsSeenBy, IsSaidOfRoot, IsSaidOf, has_end}

-- the story that the trace tells of phaser n
abbrev pub story_in : Limits → List Entry → ℕ → Story
story_in l es n =
    let w = past (reverse es) in record { limits = l; terms = terms_of n w; past = phaser_past n w }

-- the root's body says this of what task 0, which is its, has seen: what it had seen of each phaser begins the story that
-- the trace tells, and what it had noted begins its log there
abbrev pub SaysOfTrace : {B : Type 0} → Saying B → Limits → List Entry → B → Type 0
SaysOfTrace Shows l es root =
    ∥ HasShown (λ b s. IsSeenBy 0 (λ seen. IsSaidOfRoot Shows b seen) (projection (log 0) es) s) l.phasers (λ n. story_in l es n) root ∥₁

-- in the trace this task has begun to end
abbrev pub HasEnded : ℕ → List Entry → Type 0
HasEnded task es = has_end (projection (log task) es) ≡ true

-- of each task that has ended there is a body that says this, as the task's own and if it has asked for its end, of what
-- the task had seen: of each phaser that begins the story that the trace tells, and what it had noted begins its log there
abbrev pub SaysOfEach : {B : Type 0} → Saying B → Limits → List Entry → Type 0
SaysOfEach Shows l es =
    (task : ℕ) → HasEnded task es
    → ∥ HasShown (λ t s. IsSeenBy t (IsSaidOf Shows t) (projection (log t) es) s) l.phasers (λ n. story_in l es n) task ∥₁
