-- What contracts see of a phaser, and of its engine.
use Rattle.std.specs.Prelude.{ℕ}
use Rattle.phase_model.specs.Rules.{Story}

-- its limits, operators, bound and past events, and how many comparisons of task numbers its last call made
pub record Phaser : Type 0 where
  pub story : Story
  pub compared : ℕ

-- the same of an engine, and for how many phases at a time it keeps what was folded
pub record Working : Type 0 where
  pub story : Story
  pub compared : ℕ
  pub room : ℕ
