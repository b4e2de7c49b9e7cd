-- What contracts see of a phaser of a table.
use Rattle.std.specs.Prelude.{ℕ, List}
use Rattle.phase_model.specs.Rules.{Story}
use Rattle.phaser_core.specs.declared.parked.Parked.{Parked}

-- its number, all that was ever done on it, and who is parked there
pub record Behind (T : Type 0) : Type 0 where
  pub number : ℕ
  pub story : Story
  pub parked : List (Parked T)
