-- Whether a world history follows a program.
use Rattle.std.specs.Prelude.{Bool, true, false, ◌&&◌, ◌==◌, List, [], ◌∷◌, Option, Some, None}
use Rattle.std.specs.Ordering.{int_eq}
use Rattle.phase_modes.specs.declared.phased.Pair.{Pair}
use Rattle.phase_model.specs.declared.op.Op.{Op}
use Rattle.phase_model.specs.declared.terms.Terms.{Terms}
use Rattle.phase_model.specs.declared.op.Op.TheVariants.{Sum, Least, Greatest}
use Rattle.job_script.specs.Program.{Program}
use Rattle.world_model.specs.declared.event.Begun.{Begun}
use Rattle.world_model.specs.declared.event.Begun.TheVariants.{Async, Signal, Wait, Next, NextSingle, Shut, End}
use Rattle.world_model.specs.declared.event.Tried.{Tried}
use Rattle.world_model.specs.declared.event.Tried.TheVariants.{Begun as Beginning, New, Open, Send as Sending, Look as Looking}
use Rattle.world_model.specs.declared.event.WorldEvent.{WorldEvent}
use Rattle.world_model.specs.Continuing.{same_mode, same_number}
use Rattle.trace_walk.specs.Scripts.{Made, Numbers, act_of, tried}

-- ---- two acts are the same

abbrev pub same_op : Op → Op → Bool
same_op Sum Sum = true
same_op Least Least = true
same_op Greatest Greatest = true
same_op _ _ = false

abbrev pub same_ops : List Op → List Op → Bool
same_ops [] [] = true
same_ops (x ∷ xs) (y ∷ ys) = same_op x y && same_ops xs ys
same_ops _ _ = false

abbrev pub same_terms : Terms → Terms → Bool
same_terms x y = same_ops x.ops y.ops && same_number x.bound y.bound

abbrev pub same_pairs : List Pair → List Pair → Bool
same_pairs [] [] = true
same_pairs (x ∷ xs) (y ∷ ys) = x.phaser == y.phaser && same_mode x.mode y.mode && same_pairs xs ys
same_pairs _ _ = false

abbrev pub same_begun : Begun → Begun → Bool
same_begun (Async c xs) (Async d ys) = c == d && same_pairs xs ys
same_begun Signal Signal = true
same_begun Wait Wait = true
same_begun Next Next = true
same_begun (NextSingle n) (NextSingle m) = n == m
same_begun Shut Shut = true
same_begun End End = true
same_begun _ _ = false

abbrev pub same_act : Tried → Tried → Bool
same_act (Beginning b) (Beginning c) = same_begun b c
same_act (New n m terms) (New k o others) = n == k && same_mode m o && same_terms terms others
same_act (Open f) (Open g) = f == g
same_act (Sending n a v) (Sending m b u) = n == m && a == b && int_eq v u
same_act (Looking n a) (Looking m b) = n == m && a == b
same_act _ _ = false

-- ---- the history follows the program

-- the numbers that the act has drawn: those that it gives to nothing are any
abbrev pub drawn : Tried → Numbers
drawn (New n m terms) = record { phaser = n; task = 0; finish = 0 }
drawn (Beginning (Async c xs)) = record { phaser = 0; task = c; finish = 0 }
drawn (Open f) = record { phaser = 0; task = 0; finish = f }
drawn _ = record { phaser = 0; task = 0; finish = 0 }

-- the act is the next one of its task
abbrev pub is_next : Program → List WorldEvent → Option Made → Bool
is_next p w None = true
is_next p w (Some m) = same_act m.act (tried p w m.task (drawn m.act))

-- each act that is made or refused is its task's next one
abbrev pub follows : Program → List WorldEvent → Bool
follows p [] = true
follows p (e ∷ w) = is_next p w (act_of e) && follows p w
