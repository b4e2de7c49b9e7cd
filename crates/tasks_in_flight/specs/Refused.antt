-- Why a run is refused.
use Rattle.std.specs.Prelude.{◌≡◌, ℕ, ◌⊎◌}
use Rattle.phase_modes.specs.declared.refusal.Refusal.{Refusal}
use Rattle.phase_modes.specs.declared.refusal.Refusal.TheVariants.{Memory, NotExplained}

-- memory ran out, or no world explains the run
abbrev pub IsRunRefused : Refusal → Type 0
IsRunRefused e = (e ≡ Memory) ⊎ ((p : ℕ) × (e ≡ NotExplained p))
