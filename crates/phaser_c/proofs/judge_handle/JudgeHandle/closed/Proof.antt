-- `closed` of a `JudgeHandle`, as of any handle.
use Rattle.phaser_c.specs.contracts.judge_handle.JudgeHandle.closed.Key.{name}
use Rattle.phaser_c.proofs.judge_handle.JudgeHandle.closed.Statement.{statement}
use Rattle.phaser_c.proofs.judge_handle.JudgeHandle.closed.Code.{unfolded}
use Rattle.phaser_c.proofs.HandleWalks.{closed_met}
use Rattle.phaser_c.proofs.Handles.{judge_handle}

pub closed_spec : {M : Type 1} → statement M
closed_spec 𝓤 𝓛 𝓜 𝓡 wired = closed_met judge_handle 𝓤 𝓛 𝓜 𝓡 name (unfolded 𝓤 𝓛.H 𝓜 𝓡 wired)
