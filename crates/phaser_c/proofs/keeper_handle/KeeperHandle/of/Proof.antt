-- `of` of a `KeeperHandle`, as of any handle.
use Rattle.phaser_c.specs.contracts.keeper_handle.KeeperHandle.of.Key.{name}
use Rattle.phaser_c.proofs.keeper_handle.KeeperHandle.of.Statement.{statement}
use Rattle.phaser_c.proofs.keeper_handle.KeeperHandle.of.Code.{unfolded}
use Rattle.phaser_c.proofs.HandleWalks.{of_met}
use Rattle.phaser_c.proofs.Handles.{keeper_handle}

pub of_spec : {M : Type 1} → statement M
of_spec 𝓤 𝓛 𝓜 𝓡 wired = of_met keeper_handle 𝓤 𝓛 𝓜 𝓡 name (unfolded 𝓤 𝓛.H 𝓜 𝓡 wired)
