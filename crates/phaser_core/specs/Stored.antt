-- How the engine and the stored history belong together.
use Rattle.std.specs.Prelude.{◌≡◌, ◌≤◌}
use Rattle.phase_model.specs.Rules.{Story}
use Rattle.phaser_engine.specs.Phaser.{Working}

-- the stored history is the one that the engine answers by, and the engine keeps what was folded for as many phases
-- as that has room for
pub record IsStored (engine : Working) (history : Story) : Type 0 where
  pub same : history ≡ engine.story
  pub whole : history.limits.history ≤ engine.room
