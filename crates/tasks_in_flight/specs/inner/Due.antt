-- What a task in flight has still to make.
use Rattle.std.specs.Prelude.{◌≡◌, List, Option, Some, None, slice_get}
use Rattle.world_model.specs.declared.event.WorldEvent.{WorldEvent}
use Rattle.task_standing.specs.declared.plan.Due.{Due}
use Rattle.task_standing.specs.Known.{Known}
use Rattle.task_standing.specs.StillToMake.{event_of, still_to_make, still_with}

-- the events that a task has still to make, beside its child that was never born, if it has one
abbrev pub still_of : Known → Option Known → List WorldEvent
still_of k None = still_to_make k
still_of k (Some child) = still_with child k

-- this comes next of such a task: the first of these events, or an act if there is none
abbrev pub IsNext : Due → Known → Option Known → Type 0
IsNext d k child = event_of k.number d ≡ slice_get (still_of k child) 0
