-- What a note of a waiting task says, and when it still holds.
use Rattle.std.specs.Prelude.{ℕ, ◌≡◌, ◌≤◌, ◌==◌, nat_le, Bool, true, false, List, length, Option, Some, None, Ok, slice_get}
use Rattle.phase_modes.specs.declared.limits.Limits.{Limits}
use Rattle.world_model.specs.declared.event.WorldEvent.{WorldEvent}
use Rattle.world_model.specs.declared.event.WorldEvent.TheVariants as world
use Rattle.world_model.specs.declared.reply.Reply.TheVariants.{NotYet}
use Rattle.world_model.specs.Continuing.{next_done}
use Rattle.world_model.specs.Due.{next_event}
use Rattle.schedule_run.specs.declared.notes.Note.{Note}
use Rattle.schedule_run.specs.declared.notes.Notes.{Notes}
use Rattle.schedule_run.specs.declared.notes.Place.{Place}
use Rattle.schedule_run.specs.declared.notes.Place.TheVariants.{Phaser, Finish}

-- the event is one of this place
abbrev pub is_at : Place → WorldEvent → Bool
is_at (Phaser n) (world.Phaser m s) = m == n
is_at (Finish f) (world.Finish g e) = g == f
is_at _ _ = false

-- t's next event is one of this place, and not yet made
pub record Waits (l : Limits) (t : ℕ) (at : Place) (w : List WorldEvent) : Type 0 where
  pub event : WorldEvent
  pub next : next_event l t w ≡ Some event
  pub there : is_at at event ≡ true
  pub held : next_done l w event ≡ Ok NotYet

abbrev pub WaitsSomewhere : Limits → ℕ → List WorldEvent → Type 0
WaitsSomewhere l t w = (at : Place) × Waits l t at w

-- how many events the run had with the last one of a place; a number past the lists has none
abbrev pub last_in : List ℕ → List ℕ → Place → Option ℕ
last_in phasers finishes (Phaser n) = slice_get phasers n
last_in phasers finishes (Finish f) = slice_get finishes f

abbrev pub last_at : Notes → Place → Option ℕ
last_at x = last_in x.phasers.items x.finishes.items

-- it is among the first so many
abbrev pub is_quiet : Option ℕ → ℕ → Bool
is_quiet None asked = false
is_quiet (Some last) asked = nat_le last asked

-- a task's note, if it has one
abbrev pub note_in : Option (Option Note) → Option Note
note_in None = None
note_in (Some o) = o

abbrev pub note_at : Notes → ℕ → Option Note
note_at x t = note_in (slice_get x.tasks.items t)

-- a task with a note still waits there, if nothing was done there since
abbrev pub NoteStands : Limits → List WorldEvent → (Place → Option ℕ) → ℕ → Option Note → Type 0
NoteStands l w last t None = Unit {0}
NoteStands l w last t (Some note) =
    (note.asked ≤ length w) × (is_quiet (last note.place) note.asked ≡ true → Waits l t note.place w)

abbrev pub NotesStand : Limits → List WorldEvent → Notes → Type 0
NotesStand l w x = (t : ℕ) → NoteStands l w (last_at x) t (note_at x t)
