-- Which numbers of phasers, finishes and tasks are in use.
use Rattle.std.specs.Prelude.{ℕ, Bool, false, ◌||◌, ◌==◌, not, List}
use Rattle.std.specs.List.{list_any}
use Rattle.phase_modes.specs.Lists.{is_empty}
use Rattle.world_model.specs.declared.event.WorldEvent.{WorldEvent}
use Rattle.world_model.specs.declared.event.Begun.TheVariants.{Async}
use Rattle.world_model.specs.declared.event.WorldEvent.TheVariants.{Begin}
use Rattle.world_model.specs.Parts.{phaser_past, finish_past}

-- phaser n was made
abbrev pub is_phaser : ℕ → List WorldEvent → Bool
is_phaser n w = not (is_empty (phaser_past n w))

-- finish f was opened
abbrev pub is_finish : ℕ → List WorldEvent → Bool
is_finish f w = not (is_empty (finish_past f w))

-- the event begins a spawn that names t as its child
abbrev pub names : ℕ → WorldEvent → Bool
names t (Begin u (Async c pairs)) = c == t
names t _ = false

-- t is the root, or some spawn named it, also one that failed
abbrev pub is_named : ℕ → List WorldEvent → Bool
is_named t w = t == 0 || list_any (names t) w
