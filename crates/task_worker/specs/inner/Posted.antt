-- How many events of phasers a step of a worker's loop posts in the books.
use Rattle.std.specs.Prelude.{ℕ, ◌+◌, ◌≤◌, Option, Some, None}
use Rattle.phase_model.specs.Amounts.{Amount}
use Rattle.world_model.specs.declared.event.Step.TheVariants.{Pass}
use Rattle.world_model.specs.declared.event.WorldEvent.{WorldEvent}
use Rattle.world_model.specs.declared.event.WorldEvent.TheVariants.{Phaser}

-- in the books the worker has at most so many events more than before
abbrev pub PostsAtMost : ℕ → Amount → Amount → Type 0
PostsAtMost n mine mine' = mine'.events ≤ mine.events + n

-- how many a step posts at most if this event is due: of a pass two, since in its place a single may be claimed and
-- reported; of a finish's event none; if none is due an act is begun, or made by one
abbrev pub most_posted : Option WorldEvent → ℕ
most_posted (Some (Phaser n (Pass t))) = 2
most_posted (Some (Phaser n s)) = 1
most_posted (Some e) = 0
most_posted None = 1
