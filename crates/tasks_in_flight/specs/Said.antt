-- What bodies say of what their tasks have seen.
use Rattle.std.specs.Prelude.{ℕ, ◌≡◌, ◌<◌, Bool, true, false, ◌||◌, List, [], ◌∷◌, ◌++◌, length, map, All, Some, slice_get}
use Rattle.phase_modes.specs.declared.limits.Limits.{Limits}
use Rattle.phase_model.specs.Rules.{Story}
use Rattle.world_model.specs.declared.event.Begun.TheVariants.{End}
use Rattle.trace_model.specs.declared.event.TracedEvent.{TracedEvent}
use Rattle.trace_model.specs.declared.event.TracedEvent.TheVariants.{Begin}
use Rattle.trace_model.specs.Projections.{log, AreOf}
use Rattle.trace_model.specs.Run.{Entry}
use Rattle.table_receipts.specs.Parts.{IsToldAt, HasShown}
use Rattle.task_standing.specs.declared.held.Held.{Held}
use Rattle.tasks_in_flight.specs.Heard.{Asked, Seen, ends}

-- what bodies say: of the number of the task that each is the body of, what it asked for, and what its task has seen
abbrev pub Saying : Type 0 → Type 1
Saying B = B → ℕ → Asked → Seen → Type 0

-- this holds of the task of this number, by which each phaser knows it, that has seen this of each phaser: of what it held
-- then, and of what it had noted, with which its log begins
abbrev pub IsSeenBy : ℕ → (Seen → Type 0) → List Entry → (ℕ → Story) → Type 0
IsSeenBy task Holds own stories =
    (holding : List Held)
    × (noted more : List TracedEvent)
    × Holds (record { own = λ n. task; stories = stories; holding = holding; log = noted })
    × (map (λ e. e.1) own ≡ noted ++ more)

-- whatever it asked for by its last act, the body says this of what task 0 has seen
abbrev pub IsSaidOfRoot : {B : Type 0} → Saying B → B → Seen → Type 0
IsSaidOfRoot Shows b seen = (asked : Asked) × Shows b 0 asked seen

-- the parts tell a story of each phaser, legal under these limits; one of the logs is task 0's; and the root's body, which is
-- task 0's, says this of beginnings of them
abbrev pub IsSaid : {B : Type 0} → Saying B → Limits → List (List Entry) → List (List Entry) → B → Type 0
IsSaid Shows l parts logs root =
    (stories : ℕ → Story)
    × ((n : ℕ) → n < length parts → IsToldAt n (stories n) parts × ((stories n).limits ≡ l))
    × ((i : ℕ)
    × (own : List Entry)
    × (slice_get logs i ≡ Some own)
    × AreOf (log 0) own
    × ∥ HasShown (λ b s. IsSeenBy 0 (λ seen. IsSaidOfRoot Shows b seen) own s) (length parts) stories root ∥₁)

-- the event begins a task's end
abbrev pub is_end : TracedEvent → Bool
is_end (Begin t End) = true
is_end _ = false

-- one of the entries does
abbrev pub has_end : List Entry → Bool
has_end [] = false
has_end (e ∷ es) = is_end e.1 || has_end es

-- there is a body which says this of the task, that has seen this much, if it has asked for the task's end
abbrev pub IsSaidOf : {B : Type 0} → Saying B → ℕ → Seen → Type 0
IsSaidOf {B} Shows task seen = (b : B) × Shows b task ends seen

-- the parts tell a story of each phaser, legal under these limits, and of each task whose log has its end this is told, of
-- beginnings of them
abbrev pub AreSaid : (ℕ → Seen → Type 0) → Limits → List (List Entry) → List (List Entry) → Type 0
AreSaid Told l parts logs =
    (stories : ℕ → Story)
    × ((n : ℕ) → n < length parts → IsToldAt n (stories n) parts × ((stories n).limits ≡ l))
    × All (λ own. (task : ℕ) → AreOf (log task) own → has_end own ≡ true
    → ∥ HasShown (λ t s. IsSeenBy t (Told t) own s) (length parts) stories task ∥₁) logs
