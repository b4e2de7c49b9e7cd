-- `of` of a `WaitingHandle`, as of any handle.
use Rattle.phaser_c.specs.contracts.waiting_handle.WaitingHandle.of.Key.{name}
use Rattle.phaser_c.proofs.waiting_handle.WaitingHandle.of.Statement.{statement}
use Rattle.phaser_c.proofs.waiting_handle.WaitingHandle.of.Code.{unfolded}
use Rattle.phaser_c.proofs.HandleWalks.{of_met}
use Rattle.phaser_c.proofs.Handles.{waiting_handle}

pub of_spec : {M : Type 1} → statement M
of_spec 𝓤 𝓛 𝓜 𝓡 wired = of_met waiting_handle 𝓤 𝓛 𝓜 𝓡 name (unfolded 𝓤 𝓛.H 𝓜 𝓡 wired)
