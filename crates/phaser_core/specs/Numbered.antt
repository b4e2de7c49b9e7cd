-- Which task numbers were ever registered.
use Rattle.std.specs.Prelude.{ℕ, ◌≡◌, ◌&&◌, nat_lt}
use Rattle.phase_model.specs.Rules.{Story}
use Rattle.phase_model.specs.Tasks.{is_registered}
use Rattle.phase_modes.specs.Numbers.{Numbers, has_number}

-- the set is of the numbers below the limit, and has each that was ever registered and no other
pub record Remembers (s : Story) (known : Numbers) : Type 0 where
  pub size : known.size ≡ s.limits.tasks
  pub each : (t : ℕ) → is_registered t s.past ≡ (nat_lt t known.size && has_number known t)
