-- The history of the world that a trace's entries are of.
use Rattle.std.specs.Prelude.{List, reverse}
use Rattle.world_model.specs.declared.event.WorldEvent.{WorldEvent}
use Rattle.trace_model.specs.Explained.{past}
use Rattle.trace_model.specs.Run.{Entry}

-- the newest event first
abbrev pub history : List Entry → List WorldEvent
history es = reverse (past es)
