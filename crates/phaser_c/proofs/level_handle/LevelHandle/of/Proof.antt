-- `of` of a `LevelHandle`, as of any handle.
use Rattle.phaser_c.specs.contracts.level_handle.LevelHandle.of.Key.{name}
use Rattle.phaser_c.proofs.level_handle.LevelHandle.of.Statement.{statement}
use Rattle.phaser_c.proofs.level_handle.LevelHandle.of.Code.{unfolded}
use Rattle.phaser_c.proofs.HandleWalks.{of_met}
use Rattle.phaser_c.proofs.Handles.{level_handle}

pub of_spec : {M : Type 1} → statement M
of_spec 𝓤 𝓛 𝓜 𝓡 wired = of_met level_handle 𝓤 𝓛 𝓜 𝓡 name (unfolded 𝓤 𝓛.H 𝓜 𝓡 wired)
