-- Which programs draw numbers in the root alone, as their text says it.
use Rattle.std.specs.Prelude.{Bool, true, false, ◌&&◌, if◌then◌else◌}
use Rattle.job_script.specs.declared.head.Head.{Head}
use Rattle.job_script.specs.declared.head.Head.TheVariants.{New, Async, AsyncAll, OpenFinish}
use Rattle.job_script.specs.Acts.{Acts, no_acts, act}
use Rattle.job_script.specs.Program.{Program}

-- the act spawns a child
abbrev pub is_spawn : Head → Bool
is_spawn (Async ps) = true
is_spawn AsyncAll = true
is_spawn _ = false

-- it draws a number: of a phaser, a task or a finish
abbrev pub is_draw : Head → Bool
is_draw (New name m terms) = true
is_draw (Async ps) = true
is_draw AsyncAll = true
is_draw OpenFinish = true
is_draw _ = false

-- none of these acts draws one, and none of those inside them does
abbrev pub draw_none : Acts → Bool
draw_none no_acts = true
draw_none (act h body rest) = (if is_draw h then false else draw_none body) && draw_none rest

-- whatever these acts draw themselves, no act in the body of a child that they spawn draws one
abbrev pub children_draw_none : Acts → Bool
children_draw_none no_acts = true
children_draw_none (act h body rest) =
    (if is_spawn h then draw_none body else children_draw_none body) && children_draw_none rest

-- by its text the root alone draws numbers: no act in a child's body makes a phaser, spawns or opens a finish
abbrev pub root_draws_alone : Program → Bool
root_draws_alone p = children_draw_none p.main
