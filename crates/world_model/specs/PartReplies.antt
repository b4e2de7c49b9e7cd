-- What the phaser and the finish of an event reply to it.
use Rattle.std.specs.Prelude.{ℕ, if◌then◌else◌, List, Result, Ok, Err}
use Rattle.phase_modes.specs.declared.limits.Limits.{Limits}
use Rattle.phase_modes.specs.declared.refusal.Refusal.{Refusal}
use Rattle.phase_model.specs.declared.history.Event.{Event}
use Rattle.phase_model.specs.Phases.{waits}
use Rattle.phase_model.specs.declared.history.Event.TheVariants.{Pass as Passed, Look as Looked}
use Rattle.phase_model.specs.Replies as phaser
use Rattle.phase_model.specs.declared.call.Call.{Call}
use Rattle.phase_model.specs.declared.call.Call.TheVariants.{Make as make, Register as register, Signal as signal, Pass as pass, SingleDone as single_done, Send as send, Look as look, Drop as drop_task}
use Rattle.finish_core.specs.declared.event.FinishEvent.{FinishEvent}
use Rattle.finish_core.specs.Finish.{all_ended}
use Rattle.finish_core.specs.Replies as finish
use Rattle.finish_core.specs.declared.event.FinishEvent.TheVariants.{Shut as Shutting}
use Rattle.world_model.specs.declared.reply.Reply.{Reply}
use Rattle.world_model.specs.declared.event.Step.{Step}
use Rattle.world_model.specs.declared.event.WorldEvent.{WorldEvent}
use Rattle.world_model.specs.declared.event.Step.TheVariants.{Make, Reg, Sig, Claim, Did, Pass, Send, Look, Drop}
use Rattle.world_model.specs.declared.reply.Reply.TheVariants.{Done, Phase, Value, NotYet}
use Rattle.world_model.specs.Parts.{phaser_past, finish_past, story_of}

-- a phaser's reply as the world's, for the history before it
abbrev pub returned : List Event → phaser.Reply → Result Reply Refusal
returned h (phaser.refused r) = Err r
returned h phaser.not_yet = Ok NotYet
returned h (phaser.done (Passed t)) = Ok (Phase (waits t h))
returned h (phaser.done (Looked t a x)) = Ok (Value x)
returned h (phaser.done _) = Ok Done

-- the call that makes the step: a claim is a pass that claims
abbrev pub call_for : Step → Call
call_for (Make t m terms) = make t m
call_for (Reg q t m) = register q t m
call_for (Sig t x) = signal t x
call_for (Claim t) = pass t
call_for (Did t) = single_done t
call_for (Pass t) = pass t
call_for (Send t a v) = send t a v
call_for (Look t a) = look t a
call_for (Drop t) = drop_task t

-- the reply of phaser n
abbrev pub phaser_reply : Limits → List WorldEvent → ℕ → Step → Result Reply Refusal
phaser_reply l w n s = returned (phaser_past n w) (phaser.reply (story_of l n w) (call_for s))

-- a finish's reply as the world's
abbrev pub finish_returned : Result (Unit {0}) Refusal → Result Reply Refusal
finish_returned (Ok u) = Ok Done
finish_returned (Err r) = Err r

-- the reply of finish f: its shut has to wait while a task that was spawned in it hasn't ended
abbrev pub finish_reply : Limits → List WorldEvent → ℕ → FinishEvent → Result Reply Refusal
finish_reply l w f Shutting =
    if all_ended (finish_past f w) then finish_returned (finish.reply l.tasks (finish_past f w) Shutting)
    else Ok NotYet
finish_reply l w f e = finish_returned (finish.reply l.tasks (finish_past f w) e)
