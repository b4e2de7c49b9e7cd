-- `closed` of a `LevelHandle`, as of any handle.
use Rattle.phaser_c.specs.contracts.level_handle.LevelHandle.closed.Key.{name}
use Rattle.phaser_c.proofs.level_handle.LevelHandle.closed.Statement.{statement}
use Rattle.phaser_c.proofs.level_handle.LevelHandle.closed.Code.{unfolded}
use Rattle.phaser_c.proofs.HandleWalks.{closed_met}
use Rattle.phaser_c.proofs.Handles.{level_handle}

pub closed_spec : {M : Type 1} → statement M
closed_spec 𝓤 𝓛 𝓜 𝓡 wired = closed_met level_handle 𝓤 𝓛 𝓜 𝓡 name (unfolded 𝓤 𝓛.H 𝓜 𝓡 wired)
