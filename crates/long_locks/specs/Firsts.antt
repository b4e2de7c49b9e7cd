-- The first of those who are parked.
use Rattle.std.specs.Prelude.{Bool, false, List, [], ◌∷◌}
use Rattle.phase_model.specs.Rules.{Story}
use Rattle.phaser_core.specs.declared.parked.Parked.{Parked}
use Rattle.long_locks.specs.declared.course.Then.{Then}
use Rattle.long_locks.specs.Courses.{course, has_moved}

-- its call adds an event
abbrev pub first_moves : Story → List (Parked Then) → Bool
first_moves s [] = false
first_moves s (p ∷ ps) = has_moved (course s p.task p.call p.item)
