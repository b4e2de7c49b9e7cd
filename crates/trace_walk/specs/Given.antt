-- The act that a body gives, as the world knows it.
use Rattle.std.specs.Prelude.{Bool, false, List, Option, Some, None}
use Rattle.phase_modes.specs.declared.phased.Pair.{Pair}
use Rattle.job_script.specs.declared.act.Act as tasks
use Rattle.job_script.specs.declared.act.Act.TheVariants as acts
use Rattle.world_model.specs.declared.event.Begun.TheVariants.{Async, Signal, Wait, Next, NextSingle, Shut, End}
use Rattle.world_model.specs.declared.event.Tried.{Tried}
use Rattle.world_model.specs.declared.event.Tried.TheVariants.{Begun as Beginning, New, Open, Send as Sending, Look as Looking}
use Rattle.world_model.specs.declared.event.WorldEvent.{WorldEvent}
use Rattle.world_model.specs.Drawing.{own_pairs}
use Rattle.trace_walk.specs.Follows.{drawn, same_act}
use Rattle.trace_walk.specs.Scripts.{Made, Numbers}
use Rattle.trace_walk.specs.declared.acts.Numbers as stored
use Rattle.trace_walk.specs.declared.acts.MadeAct.{MadeAct}

-- the act as it is tried by a task that holds these phasers, if these numbers are drawn for it
abbrev pub tried_of : {B : Type 0} → List Pair → Numbers → tasks.Act B → Tried
tried_of own new (acts.New m ops b) = New new.phaser m (record { ops = ops; bound = b })
tried_of own new (acts.Async child pairs) = Beginning (Async new.task pairs)
tried_of own new (acts.AsyncAll child) = Beginning (Async new.task own)
tried_of own new acts.OpenFinish = Open new.finish
tried_of own new acts.ShutFinish = Beginning Shut
tried_of own new acts.Signal = Beginning Signal
tried_of own new acts.Wait = Beginning Wait
tried_of own new acts.Next = Beginning Next
tried_of own new (acts.NextSingle n) = Beginning (NextSingle n)
tried_of own new (acts.Send n a v) = Sending n a v
tried_of own new (acts.Look n a) = Looking n a
tried_of own new acts.End = Beginning End

-- an act that a task made or was refused
abbrev pub made_view : MadeAct → Made
made_view m = record { task = m.task; act = m.act }

-- numbers that are drawn
abbrev pub numbers_view : stored.Numbers → Numbers
numbers_view d = record { phaser = d.phaser; task = d.task; finish = d.finish }

-- what was made or refused after these events is an act, and the one that a body gives, the numbers that it drew being any
abbrev pub gives : {B : Type 0} → List WorldEvent → Option Made → tasks.Act B → Bool
gives w None act = false
gives w (Some m) act = same_act m.act (tried_of (own_pairs m.task w) (drawn m.act) act)
