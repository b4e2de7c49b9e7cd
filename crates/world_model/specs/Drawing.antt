-- What a task's next act may name: the least numbers that aren't in use, and its own phasers.
use Rattle.std.specs.Prelude.{ℕ, Bool, not, List, map, filter, slice_index_or, unwrap_or}
use Rattle.phase_modes.specs.declared.reg.Mode.TheVariants.{Wait}
use Rattle.phase_modes.specs.declared.phased.Pair.{Pair}
use Rattle.phase_model.specs.Tasks.{mode_of}
use Rattle.world_model.specs.declared.event.WorldEvent.{WorldEvent}
use Rattle.world_model.specs.Parts.{phaser_past}
use Rattle.world_model.specs.Tasks.{phasers_of}
use Rattle.world_model.specs.Report.{below}

-- the least number below the limit that isn't in use; if all are, the limit
abbrev pub least_unused : (ℕ → Bool) → ℕ → ℕ
least_unused used limit = slice_index_or (filter (λ n. not (used n)) (below limit)) 0 limit

-- all phasers of t, in the order in which it got them, each in t's own mode
abbrev pub own_pairs : ℕ → List WorldEvent → List Pair
own_pairs t w =
    map (λ n. record { phaser = n; mode = unwrap_or (mode_of t (phaser_past n w)) Wait }) (phasers_of t w)
