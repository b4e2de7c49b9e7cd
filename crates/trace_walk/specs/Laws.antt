-- What holds of each run by picks, and of the place at which a history leaves its program.
use Rattle.std.specs.Prelude.{ℕ, ◌≡◌, ◌≢◌, ◌<◌, ◌+◌, suc, true, false, if◌then◌else◌, List, [], ◌∷◌, ◌++◌, length, reverse, take, Option, Some, None}
use Rattle.phase_modes.specs.Limits.{limits_fit}
use Rattle.phase_modes.specs.declared.limits.Limits.{Limits}
use Rattle.job_script.specs.Program.{Program}
use Rattle.world_model.specs.declared.event.WorldEvent.{WorldEvent}
use Rattle.world_model.specs.declared.event.WorldEvent.TheVariants.{Fail}
use Rattle.world_model.specs.Due.{next_event}
use Rattle.world_model.specs.GivingUp.{is_refused_by, is_reg}
use Rattle.world_model.specs.Replies.{is_legal_world, reply}
use Rattle.world_model.specs.Tasks.{is_ended}
use Rattle.trace_walk.specs.Scripts.{act_of}
use Rattle.trace_walk.specs.Follows.{is_next, follows}
use Rattle.trace_walk.specs.Picks.{round_from, run_within}

-- each event of a run is one that the world accepts
abbrev pub RunsAreLegal : Type 0
RunsAreLegal =
    (p : Program) (picks : List ℕ) (most : ℕ) → is_legal_world p.limits (run_within most p picks) ≡ true

-- a run follows its program
abbrev pub RunsFollow : Type 0
RunsFollow = (p : Program) (picks : List ℕ) (most : ℕ) → follows p (run_within most p picks) ≡ true

-- as long as the root hasn't ended, a round makes an event: so a run never has a round in which nobody moves
abbrev pub RoundsMove : Type 0
RoundsMove =
    (p : Program) (picks : List ℕ) (most : ℕ) → limits_fit p.limits ≡ true
    → let w = run_within most p picks in
    is_ended 0 w ≡ false → length w < length (round_from p.limits.tasks 0 p w)

-- t gives up by this number if the event that continues its act is refused by it: that is never want of memory, and
-- full registrations only if it has a registration to make
pub record GivesUp (l : Limits) (w : List WorldEvent) (t n : ℕ) : Type 0 where
  pub event : WorldEvent
  pub next : next_event l t w ≡ Some event
  pub refused : is_refused_by n (reply l w event) ≡ true
  pub memory : n ≢ 23
  pub registration : n ≡ 14 → is_reg event ≡ true

-- so does each task that gives up in the history
abbrev pub AllGiveUp : Limits → List WorldEvent → Type 0
AllGiveUp l h = (later w : List WorldEvent) (t n : ℕ) → h ≡ later ++ Fail t n ∷ w → GivesUp l w t n

-- so does each task that gives up in a run
abbrev pub RunsGiveUp : Type 0
RunsGiveUp = (p : Program) (picks : List ℕ) (most : ℕ) → AllGiveUp p.limits (run_within most p picks)

-- ---- where a history leaves its program, its events taken oldest first

-- the place, counted on from k, of the first of the events to come that is an act and not its task's next one
abbrev pub first_wrong : Program → List WorldEvent → ℕ → List WorldEvent → Option ℕ
first_wrong p w k [] = None
first_wrong p w k (e ∷ es) = if is_next p w (act_of e) then first_wrong p (e ∷ w) (k + 1) es else Some (k + 1)

-- if a place is found, the events before it follow the program, and with that event they no longer do; if none
-- is, all do
abbrev pub IsFirstWrong : Program → List WorldEvent → Option ℕ → Type 0
IsFirstWrong p es None = follows p (reverse es) ≡ true
IsFirstWrong p es (Some n) =
    (j : ℕ) × (n ≡ suc j)
    × (follows p (reverse (take j es)) ≡ true)
    × (follows p (reverse (take (suc j) es)) ≡ false)

-- the place found is the first
abbrev pub PlacesAreFirst : Type 0
PlacesAreFirst = (p : Program) (es : List WorldEvent) → IsFirstWrong p es (first_wrong p [] 0 es)
