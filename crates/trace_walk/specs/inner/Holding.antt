-- A task's own phasers, read off the events that registered it.
use Rattle.std.specs.Prelude.{ℕ, if◌then◌else◌, List, Option, Some, None, option_map}
use Rattle.phase_modes.specs.declared.reg.Mode.{Mode}
use Rattle.phase_modes.specs.declared.phased.Pair.{Pair}
use Rattle.phase_model.specs.declared.history.Event.{Event}
use Rattle.phase_model.specs.Tasks.{is_dropped, is_live, mode_of}
use Rattle.world_model.specs.declared.event.WorldEvent.{WorldEvent}
use Rattle.world_model.specs.Parts.{phaser_past}
use Rattle.world_model.specs.Tasks.{joined_by}
use Rattle.trace_walk.specs.declared.phasers_held.Stay.{Stay}

-- the mode in which t was last registered, and whether it was dropped, by a phaser's history
abbrev pub stay_in : ℕ → List Event → Stay
stay_in t h = record { mode = mode_of t h; left = is_dropped t h }

-- the same of phaser n
abbrev pub stay_of : ℕ → ℕ → List WorldEvent → Stay
stay_of t n w = stay_in t (phaser_past n w)

-- the mode in which t is registered on phaser n, if it is
abbrev pub mode_on : ℕ → ℕ → List WorldEvent → Option Mode
mode_on t n w = if is_live t (phaser_past n w) then mode_of t (phaser_past n w) else None

-- the phaser with that mode
abbrev pub pair_on : ℕ → List WorldEvent → Option ℕ → Option Pair
pair_on t w None = None
pair_on t w (Some n) = option_map (λ m. record { phaser = n; mode = m }) (mode_on t n w)

-- the phaser on which the event registers t, if t is still registered on it after w
abbrev pub pair_by : ℕ → List WorldEvent → WorldEvent → Option Pair
pair_by t w e = pair_on t w (joined_by t e)
