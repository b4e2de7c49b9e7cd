-- `into_loose` of a `Handle`, as of any handle.
use Rattle.phaser_c.specs.contracts.handle.Handle.into_loose.Key.{name}
use Rattle.phaser_c.proofs.handle.Handle.into_loose.Statement.{statement}
use Rattle.phaser_c.proofs.handle.Handle.into_loose.Code.{unfolded}
use Rattle.phaser_c.proofs.HandleWalks.{into_loose_met}
use Rattle.phaser_c.proofs.Handles.{handle}

pub into_loose_spec : {M : Type 1} → statement M
into_loose_spec 𝓤 𝓛 𝓜 𝓡 wired = into_loose_met handle 𝓤 𝓛 𝓜 𝓡 name (unfolded 𝓤 𝓛.H 𝓜 𝓡 wired)
