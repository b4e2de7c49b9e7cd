-- What a trace has of an event, and of what it was answered.
use Rattle.std.specs.Prelude.{ℤ}
use Rattle.phase_model.specs.declared.op.Look.{Look}
use Rattle.phase_model.specs.declared.op.Look.TheVariants.{Nothing}
use Rattle.world_model.specs.declared.event.Step.{Step}
use Rattle.world_model.specs.declared.event.Step.TheVariants as plain
use Rattle.world_model.specs.declared.event.WorldEvent.{WorldEvent}
use Rattle.world_model.specs.declared.event.WorldEvent.TheVariants as world
use Rattle.world_model.specs.declared.reply.Reply.{Reply}
use Rattle.world_model.specs.declared.reply.Reply.TheVariants.{Value}
use Rattle.trace_model.specs.declared.event.TracedStep.{TracedStep}
use Rattle.trace_model.specs.declared.event.TracedStep.TheVariants as step
use Rattle.trace_model.specs.declared.event.TracedEvent.{TracedEvent}
use Rattle.trace_model.specs.declared.event.TracedEvent.TheVariants.{Phaser, Finish, Begin, Refuse, Fail}

-- what a look saw, by its answer
abbrev pub seen : Reply → Look ℤ
seen (Value x) = x
seen _ = Nothing

-- the step, a look with what it saw
abbrev pub traced_step : Step → Reply → TracedStep
traced_step (plain.Make t m terms) x = step.Make t m terms
traced_step (plain.Reg q t m) x = step.Reg q t m
traced_step (plain.Sig t n) x = step.Sig t n
traced_step (plain.Claim t) x = step.Claim t
traced_step (plain.Did t) x = step.Did t
traced_step (plain.Pass t) x = step.Pass t
traced_step (plain.Send t a v) x = step.Send t a v
traced_step (plain.Look t a) x = step.Look t a (seen x)
traced_step (plain.Drop t) x = step.Drop t

-- the event, with what it was answered
abbrev pub traced : WorldEvent → Reply → TracedEvent
traced (world.Phaser n s) x = Phaser n (traced_step s x)
traced (world.Finish f e) x = Finish f e
traced (world.Begin t b) x = Begin t b
traced (world.Refuse t a n) x = Refuse t a n
traced (world.Fail t n) x = Fail t n
