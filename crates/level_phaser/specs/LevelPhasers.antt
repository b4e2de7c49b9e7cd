-- A phaser whose tasks all stand level.
use Rattle.std.specs.Prelude.{ℕ, ◌+◌, ◌<◌, List, length}
use Rattle.phase_model.specs.Rules.{Story}
use Rattle.phase_model.specs.Laws.{IsLegal}
use Rattle.level_phaser.specs.RoundLaws.{StandLevel}

-- the history is legal, and all tasks that are registered, these, stand level in this phase
abbrev pub IsReady : ℕ → List ℕ → Story → Type 0
IsReady phase tasks story = IsLegal story × StandLevel phase tasks story

-- the history hasn't room for 1024 events more, which are a round of 256 tasks and a leave of each, and some more
abbrev pub IsFull : Story → Type 0
IsFull story = story.limits.history < length story.past + 1024
