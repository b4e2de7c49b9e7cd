-- Where a program's tasks stand in a world history: the acts that each has left, and what its names mean.
use Rattle.std.specs.Prelude.{ℕ, Bool, false, ◌==◌, if◌then◌else◌, List, [], ◌∷◌, map, drop, Option, Some, None, slice_get}
use Rattle.job_script.specs.declared.head.Head.{Head}
use Rattle.job_script.specs.declared.head.Head.TheVariants as acts
use Rattle.job_script.specs.Acts.{Act, Acts, no_acts, flat}
use Rattle.job_script.specs.Program.{Program}
use Rattle.job_script.specs.Steps.{no_meanings, meaning, pair_for, named_as, given_name}
use Rattle.finish_core.specs.declared.event.FinishEvent.TheVariants.{Opened}
use Rattle.world_model.specs.declared.event.Step.TheVariants.{Make, Send, Look}
use Rattle.world_model.specs.declared.event.Begun.TheVariants.{Async, Signal, Wait, Next, NextSingle, Shut, End}
use Rattle.world_model.specs.declared.event.Tried.{Tried}
use Rattle.world_model.specs.declared.event.Tried.TheVariants.{Begun as Beginning, New, Open, Send as Sending, Look as Looking}
use Rattle.world_model.specs.declared.event.WorldEvent.{WorldEvent}
use Rattle.world_model.specs.declared.event.WorldEvent.TheVariants.{Phaser, Finish, Begin, Refuse}
use Rattle.world_model.specs.Drawing.{own_pairs}

-- ---- the acts in a history

-- an act that a task made or was refused
pub record Made : Type 0 where
  pub task : ℕ
  pub act : Tried

-- the act of which the event is the first, or which it refuses; a failure is none, and neither is what continues an
-- act
abbrev pub act_of : WorldEvent → Option Made
act_of (Phaser n (Make t m terms)) = Some (record { task = t; act = New n m terms })
act_of (Phaser n (Send t a v)) = Some (record { task = t; act = Sending n a v })
act_of (Phaser n (Look t a)) = Some (record { task = t; act = Looking n a })
act_of (Finish f (Opened t)) = Some (record { task = t; act = Open f })
act_of (Begin t b) = Some (record { task = t; act = Beginning b })
act_of (Refuse t a n) = Some (record { task = t; act = a })
act_of _ = None

-- the event is an act of t
abbrev pub is_of : ℕ → Option Made → Bool
is_of t None = false
is_of t (Some m) = m.task == t

-- ---- what a task has left

-- the body that an act hands to a child
abbrev pub body_of : Option Act → Acts
body_of None = no_acts
body_of (Some a) = a.body

-- who spawns t by the event
abbrev pub parent_by : ℕ → WorldEvent → Option ℕ
parent_by t (Begin u (Async c pairs)) = if c == t then Some u else None
parent_by t _ = None

-- what t has left after an event, if this is who spawns it by the event
abbrev pub left_after : ℕ → WorldEvent → Option ℕ → (ℕ → List Act) → List Act
left_after t e (Some u) before = flat (body_of (slice_get (before u) 0))
left_after t e None before = if is_of t (act_of e) then drop 1 (before t) else before t

-- the acts that t has left: the root begins with those of main, a child with those of the body at which its spawn
-- stands
abbrev pub acts_left : Program → List WorldEvent → ℕ → List Act
acts_left p [] t = if t == 0 then flat p.main else []
acts_left p (e ∷ w) t = left_after t e (parent_by t e) (acts_left p w)

-- the act that t makes next, its end if there is none
abbrev pub next_act : Program → List WorldEvent → ℕ → Option Act
next_act p w t = slice_get (acts_left p w t) 0

-- ---- what names mean

-- what the names mean to t after an event, if this is who spawns it by the event
abbrev pub meant_after : Program → List WorldEvent → ℕ → WorldEvent → Option ℕ → (ℕ → List ℕ) → List ℕ
meant_after p w t e (Some u) before = before u
meant_after p w t (Phaser n (Make u m terms)) None before =
    if u == t then named_as (given_name (next_act p w t)) n (before t) else before t
meant_after p w t _ None before = before t

-- What the names mean to t. A child begins with what they mean to its spawner as the spawn is begun, and later changes
-- of either don't touch the other. A `new` of a name that has a meaning gives it another.
abbrev pub meanings : Program → List WorldEvent → ℕ → List ℕ
meanings p [] t = no_meanings
meanings p (e ∷ w) t = meant_after p w t e (parent_by t e) (meanings p w)

-- ---- the act that comes next

-- the numbers that a `new`, a spawn and an `open` draw
pub record Numbers : Type 0 where
  pub phaser : ℕ
  pub task : ℕ
  pub finish : ℕ

-- the act as the world knows it, if these numbers are drawn for it; a repeat is in no flat list
abbrev pub tried_as : List WorldEvent → ℕ → List ℕ → Numbers → Head → Tried
tried_as w t ms new (acts.New name m terms) = New new.phaser m terms
tried_as w t ms new (acts.Async xs) = Beginning (Async new.task (map (pair_for ms) xs))
tried_as w t ms new acts.AsyncAll = Beginning (Async new.task (own_pairs t w))
tried_as w t ms new acts.OpenFinish = Open new.finish
tried_as w t ms new acts.ShutFinish = Beginning Shut
tried_as w t ms new acts.Signal = Beginning Signal
tried_as w t ms new acts.Wait = Beginning Wait
tried_as w t ms new acts.Next = Beginning Next
tried_as w t ms new (acts.NextSingle n) = Beginning (NextSingle n)
tried_as w t ms new (acts.Send name a v) = Sending (meaning ms name) a v
tried_as w t ms new (acts.Look name a) = Looking (meaning ms name) a
tried_as w t ms new (acts.Repeat k) = Beginning End

-- the same of the next act, and the end if there is none
abbrev pub tried_next : List WorldEvent → ℕ → List ℕ → Numbers → Option Act → Tried
tried_next w t ms new None = Beginning End
tried_next w t ms new (Some a) = tried_as w t ms new a.head

-- the act that t makes next, if these numbers are drawn for it
abbrev pub tried : Program → List WorldEvent → ℕ → Numbers → Tried
tried p w t new = tried_next w t (meanings p w t) new (next_act p w t)
