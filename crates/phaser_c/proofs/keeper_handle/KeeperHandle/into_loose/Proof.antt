-- `into_loose` of a `KeeperHandle`, as of any handle.
use Rattle.phaser_c.specs.contracts.keeper_handle.KeeperHandle.into_loose.Key.{name}
use Rattle.phaser_c.proofs.keeper_handle.KeeperHandle.into_loose.Statement.{statement}
use Rattle.phaser_c.proofs.keeper_handle.KeeperHandle.into_loose.Code.{unfolded}
use Rattle.phaser_c.proofs.HandleWalks.{into_loose_met}
use Rattle.phaser_c.proofs.Handles.{keeper_handle}

pub into_loose_spec : {M : Type 1} → statement M
into_loose_spec 𝓤 𝓛 𝓜 𝓡 wired = into_loose_met keeper_handle 𝓤 𝓛 𝓜 𝓡 name (unfolded 𝓤 𝓛.H 𝓜 𝓡 wired)
