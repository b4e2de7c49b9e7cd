-- `of` of a `JudgeHandle`, as of any handle.
use Rattle.phaser_c.specs.contracts.judge_handle.JudgeHandle.of.Key.{name}
use Rattle.phaser_c.proofs.judge_handle.JudgeHandle.of.Statement.{statement}
use Rattle.phaser_c.proofs.judge_handle.JudgeHandle.of.Code.{unfolded}
use Rattle.phaser_c.proofs.HandleWalks.{of_met}
use Rattle.phaser_c.proofs.Handles.{judge_handle}

pub of_spec : {M : Type 1} → statement M
of_spec 𝓤 𝓛 𝓜 𝓡 wired = of_met judge_handle 𝓤 𝓛 𝓜 𝓡 name (unfolded 𝓤 𝓛.H 𝓜 𝓡 wired)
