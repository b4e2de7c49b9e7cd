-- What a seat knows, and how it changes.
use Rattle.std.specs.Prelude.{ℕ, ◌+◌, Bool, true, false, List, [], ◌∷◌, Option, None, Some}
use Rattle.phase_model.specs.declared.history.Event.{Event}
use Rattle.level_phaser.specs.declared.view.Deeds.{Deeds}
use Rattle.level_phaser.specs.declared.view.SeatedTask.{SeatedTask}
use Rattle.level_phaser.specs.declared.view.Opening.{Opening}
use Rattle.level_phaser.specs.declared.view.Role.{Role}
use Rattle.level_phaser.specs.declared.view.Role.TheVariants.{Stands, Came, Gone}
use Rattle.level_phaser.specs.declared.view.SeatView.{SeatView}
use Rattle.level_phaser.specs.Deeds.{deeds, deeds_of, with_signal, with_sends}

-- this task did this itself, and its row shows this
abbrev pub seated : ℕ → Deeds → List Event → SeatedTask
seated task done pending = record { task = task; deeds = done; pending = pending; fresh = false }

-- the same, and whether it has told nothing since it went on
abbrev pub seated_as : ℕ → Deeds → List Event → Bool → SeatedTask
seated_as task done pending fresh = record { task = task; deeds = done; pending = pending; fresh = fresh }

-- what the row of each shows is told, and then one signal more
abbrev pub signalled : List SeatedTask → List SeatedTask
signalled [] = []
signalled (c ∷ cs) = seated_as c.task (with_signal (with_sends c.pending c.deeds)) c.pending true ∷ signalled cs

-- these tasks, each with what it did by this history
abbrev pub seats_in : List Event → List ℕ → List SeatedTask
seats_in h [] = []
seats_in h (t ∷ ts) = seated t (deeds_of t h) [] ∷ seats_in h ts

-- each with what it did by this history
abbrev pub known_by : List Event → List SeatedTask → List SeatedTask
known_by h [] = []
known_by h (c ∷ cs) = seated c.task (deeds_of c.task h) c.pending ∷ known_by h cs

-- the row of each shows this now
abbrev pub showing : List Event → List SeatedTask → List SeatedTask
showing es [] = []
showing es (c ∷ cs) = seated_as c.task c.deeds es c.fresh ∷ showing es cs

-- what the row of the first of these tasks shows
abbrev pub pending_in : List SeatedTask → List Event
pending_in [] = []
pending_in (c ∷ cs) = c.pending

-- the first of these tasks has told nothing since it went on
abbrev pub fresh_in : List SeatedTask → Bool
fresh_in [] = false
fresh_in (c ∷ cs) = c.fresh

module _ {S : Type 0} where
  abbrev pub view_of : List SeatedTask → ℕ → Role S → List Event → ℕ → ℕ → SeatView S
  view_of tasks phase role seen heard width = record {
    tasks = tasks;
    phase = phase;
    role = role;
    seen = seen;
    heard = heard;
    width = width;
  }

  -- the first task, which hasn't come
  abbrev pub first_view : ℕ → ℕ → SeatView S
  first_view task width = view_of (seated task (deeds 0 []) [] ∷ []) 0 Stands [] 0 width

  -- who made the table, before it is opened: the value that nobody uses is at home
  abbrev pub idle_view : SeatView S
  idle_view = view_of [] 0 Stands [] 0 0

  -- the same, which has that value
  abbrev pub opening_view : SeatView S
  opening_view = view_of [] 0 Came [] 0 0

  -- the same seat in another role and phase
  abbrev pub with_phase : SeatView S → Role S → ℕ → SeatView S
  with_phase v role phase = view_of v.tasks phase role v.seen v.heard v.width

  -- the same seat in another role
  abbrev pub with_role : SeatView S → Role S → SeatView S
  with_role v role = view_of v.tasks v.phase role v.seen v.heard v.width

  -- it stands, and has seen all of this history
  abbrev pub with_seen : SeatView S → List Event → SeatView S
  with_seen v seen = view_of (known_by seen v.tasks) v.phase Stands seen v.heard v.width

  -- the row of its task shows this now
  abbrev pub with_pending : SeatView S → List Event → SeatView S
  with_pending v es = view_of (showing es v.tasks) v.phase v.role v.seen v.heard v.width

  -- its task has left in this history
  abbrev pub without_tasks : SeatView S → Role S → List Event → SeatView S
  without_tasks v role seen = view_of [] v.phase role seen v.heard v.width

  -- a seat of no task is done
  abbrev pub role_after : List SeatedTask → Role S
  role_after [] = Gone
  role_after (c ∷ cs) = Stands

  -- the same tasks in the next phase, each with one signal more, and this history seen
  abbrev pub gone_on : SeatView S → List Event → SeatView S
  gone_on v seen = view_of (signalled v.tasks) (v.phase + 1) (role_after v.tasks) seen v.heard v.width

  -- what a task tells others: it has come so far
  abbrev pub note_of : SeatView S → SeatView S
  note_of v = view_of [] v.phase Gone v.seen 0 v.width

  -- it has read the note
  abbrev pub told : SeatView S → SeatView S → SeatView S
  told v note = view_of v.tasks v.phase v.role v.seen note.phase v.width

  -- the view of the seat of who made the table: of the first task, if it is open at once
  abbrev pub first_of_all : Option Opening → SeatView S
  first_of_all None = idle_view
  first_of_all (Some o) = first_view o.task o.width
