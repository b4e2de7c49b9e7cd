-- What a task knows after any event.
use Rattle.std.specs.Prelude.{ℕ, Bool, ◌≡◌, true, false, ◌==◌, if◌then◌else◌, List, [], ◌∷◌, ◌++◌}
use Rattle.std.specs.List.{list_any}
use Rattle.phase_modes.specs.declared.limits.Limits.{Limits}
use Rattle.world_model.specs.declared.event.WorldEvent.{WorldEvent}
use Rattle.world_model.specs.declared.event.WorldEvent.TheVariants.{Fail}
use Rattle.world_model.specs.Actors.{actor}
use Rattle.world_model.specs.Replies.{is_legal_world}
use Rattle.world_model.specs.Tasks.{is_born, ends, is_ended}
use Rattle.task_standing.specs.Known.{Known}
use Rattle.task_standing.specs.Noted.{noted}
use Rattle.task_standing.specs.Histories.{IsAbout}
use Rattle.task_standing.specs.Laws.{ActsFit, NamesFew, named_child}

-- if the event is that it gives up, its plan names no child
abbrev pub fails_alone : WorldEvent → Known → Type 0
fails_alone (Fail t n) k = t ≡ k.number → named_child k.plan ≡ []
fails_alone _ k = Unit {0}

-- what it knows after any event: what it notes of its own, and else what it knew
abbrev pub known_after : WorldEvent → List WorldEvent → Known → Known
known_after e w k = if actor w e == k.number then noted e k else k

-- all rows at once: after any event but its end it knows what the history says, if it doesn't give up beside a child
-- that was never born
abbrev pub EventsAreNoted : Type 0
EventsAreNoted = (l : Limits) (e : WorldEvent) (w : List WorldEvent) (k : Known) → ActsFit l
    → is_legal_world l (e ∷ w) ≡ true → is_born k.number w ≡ true → NamesFew k.plan
    → ends k.number e ≡ false → fails_alone e k → IsAbout w k → IsAbout (e ∷ w) (known_after e w k)

-- and its plan names no more pairs than its type holds, if it did so before
abbrev pub PlansNameFew : Type 0
PlansNameFew = (l : Limits) (e : WorldEvent) (w : List WorldEvent) (k : Known) → is_legal_world l (e ∷ w) ≡ true
    → NamesFew k.plan → NamesFew (known_after e w k).plan

-- what it knows after these events, newest first, each after those before it and the history w
abbrev pub known_later : List WorldEvent → List WorldEvent → Known → Known
known_later [] w k = k
known_later (e ∷ es) w k = known_after e (es ++ w) (known_later es w k)

-- the event is that t gives up
abbrev pub gives_up : ℕ → WorldEvent → Bool
gives_up t (Fail u n) = u == t
gives_up t _ = false

-- who knows what the history says, and notes each event of its own, knows so until it ends or gives up
abbrev pub NotesStayTrue : Type 0
NotesStayTrue = (l : Limits) (w : List WorldEvent) (k : Known) → ActsFit l → is_born k.number w ≡ true
    → NamesFew k.plan → IsAbout w k
    → (es : List WorldEvent) → is_legal_world l (es ++ w) ≡ true → is_ended k.number (es ++ w) ≡ false
    → list_any (gives_up k.number) es ≡ false → IsAbout (es ++ w) (known_later es w k)
