-- What the bodies of a run without end say of what their tasks have seen.
use Rattle.std.specs.Prelude.{ℕ}
use Rattle.phase_model.specs.Laws.{IsLegal}
use Rattle.phase_model.specs.Rules.{Story}
use Rattle.tasks_in_flight.specs.Heard.{Asked, Seen, at_start, ends, nothing}
use Rattle.tasks_in_flight.specs.Said.{Saying}

-- of each phaser the history is legal
abbrev pub AreLegal : (ℕ → Story) → Type 0
AreLegal stories = (n : ℕ) → IsLegal (stories n)

-- whatever it asked for by its last act, the body says it of a task of this number, which had seen of each phaser the
-- beginning of a legal history
abbrev pub HasSaid : {B : Type 0} → Saying B → B → ℕ → Type 0
HasSaid Shows b task = (asked : Asked) × (seen : Seen) × Shows b task asked seen × AreLegal seen.stories

-- whatever it knows of phasers at its start, and by whichever numbers they know it, the body says nothing false of task 0
abbrev pub StartsWell : {B : Type 0} → Saying B → B → Type 0
StartsWell Shows b = (own : ℕ → ℕ) (stories : ℕ → Story) → Shows b 0 nothing (at_start own stories)

-- the body says so of a task that has asked for its end by its last act
abbrev pub HasAskedForEnd : {B : Type 0} → Saying B → B → Type 0
HasAskedForEnd Shows b = (task : ℕ) × (seen : Seen) × Shows b task ends seen × AreLegal seen.stories

-- this is told of each body of which, supposing that, it follows from what the body says when it has asked for its end
abbrev pub Tells : {B : Type 0} → Type 0 → Saying B → (B → Type 0) → Type 0
Tells {B} Supposed Shows Told = (b : B) → (Supposed → HasAskedForEnd Shows b) → Told b
