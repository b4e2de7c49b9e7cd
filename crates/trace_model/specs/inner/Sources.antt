-- The events of a part, by what it was made of.
use Rattle.std.specs.Prelude.{◌≡◌, List, length, drop, reverse, ⊤}
use Rattle.trace_model.specs.declared.part.Source.{Source}
use Rattle.trace_model.specs.declared.part.Source.TheVariants.{Phaser, Finish, Log}
use Rattle.trace_model.specs.Run.{Entry}
use Rattle.trace_model.specs.Told.{phaser_told, finish_told}

-- the entries
abbrev pub entries_of : Source → List Entry
entries_of (Phaser n h tickets) = phaser_told n h tickets.items
entries_of (Finish f h tickets first) = drop first (finish_told f (reverse h.items) tickets.items)
entries_of (Log l) = l.entries

-- there are as many tickets as events
abbrev pub IsWhole : Source → Type 0
IsWhole (Phaser n h tickets) = length tickets.items ≡ length h.past
IsWhole (Finish f h tickets first) = length tickets.items ≡ length h.items
IsWhole (Log l) = ⊤
