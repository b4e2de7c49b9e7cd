-- What the bodies of a run's tasks stand for.
use Rattle.std.specs.Prelude.{ℕ, ◌≡◌, ◌≢◌, List, [], drop, Option, Some, None, slice_get}
use Rattle.job_script.specs.Acts.{Act}
use Rattle.job_script.specs.Program.{Program}
use Rattle.job_script.specs.Steps.{Script, no_meanings, named, given_name}
use Rattle.job_script.specs.declared.act.Answer.TheVariants.{Done}
use Rattle.world_model.specs.declared.event.WorldEvent.{WorldEvent}
use Rattle.trace_walk.specs.Scripts.{acts_left, meanings, next_act}
use Rattle.trace_walk.specs.declared.seats.Seat.{Seat}

-- where a task stands: the acts that it has left, and what its names mean once its last act is answered
pub record Standing : Type 0 where
  pub left : List Act
  pub meanings : List ℕ

-- by the program and the history
abbrev pub standing : Program → List WorldEvent → ℕ → Standing
standing p w t = record { left = acts_left p w t; meanings = meanings p w t }

-- the seat of a task, if it has one
abbrev pub seat_in : Option (Option (Seat Script)) → Option (Seat Script)
seat_in None = None
seat_in (Some s) = s

abbrev pub seat_at : List (Option (Seat Script)) → ℕ → Option (Seat Script)
seat_at seats t = seat_in (slice_get seats t)

-- by its body; a task without a seat has no act left but its end
abbrev pub standing_of : Option (Seat Script) → Standing
standing_of None = record { left = []; meanings = no_meanings }
standing_of (Some s) = record { left = s.body.left; meanings = named s.heard s.body.naming s.body.meanings }

-- each task stands where it does by the program, the seats being these
abbrev pub SeatsStand : Program → List WorldEvent → (ℕ → Option (Seat Script)) → Type 0
SeatsStand p w at = (t : ℕ) → standing_of (at t) ≡ standing p w t

abbrev pub BodiesStand : Program → List WorldEvent → List (Option (Seat Script)) → Type 0
BodiesStand p w seats = SeatsStand p w (seat_at seats)

-- its next act was given to a task, and isn't answered yet
abbrev pub IsAskedSeat : Program → List WorldEvent → ℕ → Option (Seat Script) → Type 0
IsAskedSeat p w t None = (acts_left p w t ≡ []) × (meanings p w t ≡ no_meanings)
IsAskedSeat p w t (Some s) =
    (s.body.left ≡ drop 1 (acts_left p w t))
    × (s.body.meanings ≡ meanings p w t)
    × (s.body.naming ≡ given_name (next_act p w t))
    × (s.heard ≡ Done)

pub record IsAskedOf (p : Program) (w : List WorldEvent) (t : ℕ) (at : ℕ → Option (Seat Script)) : Type 0 where
  pub others : (u : ℕ) → u ≢ t → standing_of (at u) ≡ standing p w u
  pub own : IsAskedSeat p w t (at t)

abbrev pub IsAsked : Program → List WorldEvent → ℕ → List (Option (Seat Script)) → Type 0
IsAsked p w t seats = IsAskedOf p w t (seat_at seats)
