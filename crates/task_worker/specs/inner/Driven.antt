-- What a worker knows of a step on a phaser that a task made.
use Rattle.std.specs.Prelude.{ℕ, ◌≡◌, List}
use Rattle.phase_model.specs.Laws.{IsLegal}
use Rattle.phase_model.specs.Replies.{reply, done}
use Rattle.phase_model.specs.Rules.{Story}
use Rattle.world_model.specs.declared.event.Step.{Step}
use Rattle.world_model.specs.PartReplies.{call_for}
use Rattle.world_model.specs.Parts.{event_for}
use Rattle.told_history.specs.Stories.{GoesOn}
use Rattle.table_receipts.specs.Logs.{Sight}
use Rattle.table_receipts.specs.Seen.{story_at}

-- after some legal history that goes on from what was seen, the phaser replies with this step
abbrev pub IsReplied : Story → Step → Type 0
IsReplied seen s =
    (before : Story)
    × IsLegal before
    × GoesOn seen before
    × (reply before (call_for s) ≡ done (event_for before.terms before.past s))

-- the same of each phaser, by its number, of which so much was seen
abbrev pub Replies : List Sight → ℕ → Step → Type 0
Replies fronts n s = IsReplied (story_at fronts n) s
