-- Who is left once a run has ended.
use Rattle.std.specs.Prelude.{◌≡◌, ℕ, false, List, reverse}
use Rattle.phase_model.specs.Tasks.{is_live}
use Rattle.world_model.specs.Parts.{phaser_past}
use Rattle.trace_model.specs.Explained.{past}
use Rattle.trace_model.specs.Run.{Entry}

-- no task is registered on any phaser: so every phase is closed, and each value sent is counted in one
abbrev pub IsLeftByAll : List Entry → Type 0
IsLeftByAll es = (t n : ℕ) → is_live t (phaser_past n (past (reverse es))) ≡ false
