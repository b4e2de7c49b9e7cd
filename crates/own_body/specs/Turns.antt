-- What a task says of its turns and of its children.
use Rattle.std.specs.Prelude.{ℕ, ◌≡◌, ◌≤◌, ◌==◌, Bool, true, false, List, length, filter, Some, slice_get}
use Rattle.phase_model.specs.declared.history.Event.{Event}
use Rattle.phase_model.specs.declared.history.Event.TheVariants.{Pass}
use Rattle.world_model.specs.declared.event.Begun.TheVariants.{Async}
use Rattle.trace_model.specs.declared.event.TracedEvent.{TracedEvent}
use Rattle.trace_model.specs.declared.event.TracedEvent.TheVariants.{Begin}
use Rattle.task_standing.specs.declared.held.Held.{Held}
use Rattle.tasks_in_flight.specs.Heard.{Asked, Seen, nothing, shuts}
use Rattle.own_body.specs.declared.counts.Counts.{Counts}

-- the event is this task's pass
abbrev pub is_pass : ℕ → Event → Bool
is_pass task (Pass t) = t == task
is_pass task _ = false

-- how often the task has passed in this history
abbrev pub passes : ℕ → List Event → ℕ
passes task h = length (filter (λ e. is_pass task e) h)

-- with this event the task begins to spawn a child
abbrev pub is_spawn : ℕ → TracedEvent → Bool
is_spawn task (Begin t (Async child pairs)) = t == task
is_spawn task _ = false

-- how many children the task has spawned, by its log
abbrev pub spawns : ℕ → List TracedEvent → ℕ
spawns task log = length (filter (λ e. is_spawn task e) log)

-- the task holds phaser 0
abbrev pub HoldsFirst : Seen → Type 0
HoldsFirst seen = (i : ℕ) × (h : Held) × (slice_get seen.holding i ≡ Some h) × (h.phaser ≡ 0)

-- what was asked for takes no phaser from the task: that is, something was, and it was not to shut a finish
abbrev pub TakesNone : Asked → Type 0
TakesNone nothing = ⊥
TakesNone shuts = ⊥
TakesNone _ = Unit {0}

-- nothing is counted, and phaser 0 isn't noted
abbrev pub none : Counts
none = record { holds = false; turns = 0; children = 0 }

-- the counts are right of what the task has seen: it has passed phaser 0 no less often, and spawned no fewer children; it
-- holds phaser 0 if that is noted, and until then no turn is counted
abbrev pub AreCounted : ℕ → Counts → Seen → Type 0
AreCounted task c seen =
    (c.turns ≤ passes (seen.own 0) (seen.stories 0).past)
    × (c.children ≤ spawns task seen.log)
    × (c.holds ≡ true → HoldsFirst seen)
    × (c.holds ≡ false → c.turns ≡ 0)
