-- `closed` of a `WaitingHandle`, as of any handle.
use Rattle.phaser_c.specs.contracts.waiting_handle.WaitingHandle.closed.Key.{name}
use Rattle.phaser_c.proofs.waiting_handle.WaitingHandle.closed.Statement.{statement}
use Rattle.phaser_c.proofs.waiting_handle.WaitingHandle.closed.Code.{unfolded}
use Rattle.phaser_c.proofs.HandleWalks.{closed_met}
use Rattle.phaser_c.proofs.Handles.{waiting_handle}

pub closed_spec : {M : Type 1} → statement M
closed_spec 𝓤 𝓛 𝓜 𝓡 wired = closed_met waiting_handle 𝓤 𝓛 𝓜 𝓡 name (unfolded 𝓤 𝓛.H 𝓜 𝓡 wired)
