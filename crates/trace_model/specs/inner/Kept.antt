-- Which event each form in which a trace keeps one stands for.
use Rattle.std.specs.Prelude.{◌≡◌, ℕ, ◌<◌, List, map, length, get_or, ⊤}
use Rattle.std.specs.List.{All}
use Rattle.world_model.specs.declared.event.Tried.TheVariants.{Open}
use Rattle.trace_model.specs.declared.event.TracedEvent.{TracedEvent}
use Rattle.trace_model.specs.declared.event.TracedEvent.TheVariants.{Phaser, Finish, Begin, Fail}
use Rattle.trace_model.specs.declared.long.LargeEvent.{LargeEvent}
use Rattle.trace_model.specs.declared.long.LargeEvent.TheVariants.{Refuse}
use Rattle.trace_model.specs.declared.kept.Kept.{Kept}
use Rattle.trace_model.specs.declared.kept.Kept.TheVariants as kept
use Rattle.trace_model.specs.Run.{Entry}
use Rattle.trace_model.specs.Views.{short_step, short_act, long_event}

-- the event, if these are the long ones: a long event is the one at its place
abbrev pub event_kept : List LargeEvent → Kept → TracedEvent
event_kept long (kept.Phaser n s) = Phaser n (short_step s)
event_kept long (kept.Finish f e) = Finish f e
event_kept long (kept.Begin t a) = Begin t (short_act a)
event_kept long (kept.Fail t n) = Fail t n
event_kept long (kept.Long place) = long_event (get_or long place (Refuse 0 (Open 0) 0))

-- if there are so many long events, each with its ticket
abbrev pub entries_kept : List LargeEvent → List (ℕ × Kept) → List Entry
entries_kept long ks = map (λ k. (k.0, event_kept long k.1)) ks

-- a long event's place is below this number
abbrev pub IsWithin : ℕ → Kept → Type 0
IsWithin n (kept.Long place) = place < n
IsWithin n _ = ⊤

-- so is that of each of them
abbrev pub AreWithin : ℕ → List (ℕ × Kept) → Type 0
AreWithin n ks = All (λ k. IsWithin n k.1) ks

-- if these are the long events, it is kept as this one
pub record Keeps (long : List LargeEvent) (k : Kept) (e : TracedEvent) : Type 0 where
  pub within : IsWithin (length long) k
  pub is : event_kept long k ≡ e
