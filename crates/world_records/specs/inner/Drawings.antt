-- What a world reads for a task's next act, by its state alone.
use Rattle.std.specs.Prelude.{ℕ, List, map}
use Rattle.std.specs.Option.{option_map_or}
use Rattle.phase_modes.specs.declared.reg.Mode.{Mode}
use Rattle.phase_modes.specs.declared.reg.Mode.TheVariants.{Wait}
use Rattle.phase_modes.specs.declared.phased.Pair.{Pair}
use Rattle.phase_model.specs.declared.history.Event.{Event}
use Rattle.phase_model.specs.Registration.{registration}
use Rattle.world_records.specs.WorldState.{WorldState}
use Rattle.world_records.specs.Kept.{task_at, past_in}

-- the mode in which t is registered now
abbrev pub mode_at : ℕ → List Event → Mode
mode_at t h = option_map_or (λ r. r.mode) (registration t h) Wait

-- the phasers of t, each in its own mode
abbrev pub pairs_at : WorldState → ℕ → List Pair
pairs_at s t = map (λ n. record { phaser = n; mode = mode_at t (past_in s.phasers n) }) (task_at s t).phasers
