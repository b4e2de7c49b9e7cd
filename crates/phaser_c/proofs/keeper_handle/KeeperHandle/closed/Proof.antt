-- `closed` of a `KeeperHandle`, as of any handle.
use Rattle.phaser_c.specs.contracts.keeper_handle.KeeperHandle.closed.Key.{name}
use Rattle.phaser_c.proofs.keeper_handle.KeeperHandle.closed.Statement.{statement}
use Rattle.phaser_c.proofs.keeper_handle.KeeperHandle.closed.Code.{unfolded}
use Rattle.phaser_c.proofs.HandleWalks.{closed_met}
use Rattle.phaser_c.proofs.Handles.{keeper_handle}

pub closed_spec : {M : Type 1} → statement M
closed_spec 𝓤 𝓛 𝓜 𝓡 wired = closed_met keeper_handle 𝓤 𝓛 𝓜 𝓡 name (unfolded 𝓤 𝓛.H 𝓜 𝓡 wired)
