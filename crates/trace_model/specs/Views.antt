-- Which event a trace lends.
use Rattle.phase_model.specs.declared.op.Look.TheVariants.{Value, Nothing}
use Rattle.world_model.specs.declared.event.Begun.{Begun}
use Rattle.world_model.specs.declared.event.Begun.TheVariants as begun
use Rattle.trace_model.specs.declared.event.TracedStep.{TracedStep}
use Rattle.trace_model.specs.declared.event.TracedStep.TheVariants as step
use Rattle.trace_model.specs.declared.event.TracedEvent.{TracedEvent}
use Rattle.trace_model.specs.declared.event.TracedEvent.TheVariants as event
use Rattle.trace_model.specs.declared.long.LargeEvent.{LargeEvent}
use Rattle.trace_model.specs.declared.long.LargeEvent.TheVariants as long
use Rattle.trace_model.specs.declared.view.ShortStep.{ShortStep}
use Rattle.trace_model.specs.declared.view.ShortStep.TheVariants as short
use Rattle.trace_model.specs.declared.view.ShortAct.{ShortAct}
use Rattle.trace_model.specs.declared.view.ShortAct.TheVariants as act
use Rattle.trace_model.specs.declared.view.EventView.{EventView}
use Rattle.trace_model.specs.declared.view.EventView.TheVariants.{Phaser, Finish, Begin, Fail, Long}

-- the step that a short one stands for
abbrev pub short_step : ShortStep → TracedStep
short_step (short.Reg q t m) = step.Reg q t m
short_step (short.Sig t x) = step.Sig t x
short_step (short.Claim t) = step.Claim t
short_step (short.Did t) = step.Did t
short_step (short.Pass t) = step.Pass t
short_step (short.Send t a v) = step.Send t a v
short_step (short.Saw a t v) = step.Look t a (Value v)
short_step (short.SawNothing t a) = step.Look t a Nothing
short_step (short.Drop t) = step.Drop t

-- the act that a short one stands for
abbrev pub short_act : ShortAct → Begun
short_act act.Signal = begun.Signal
short_act act.Wait = begun.Wait
short_act act.Next = begun.Next
short_act (act.NextSingle n) = begun.NextSingle n
short_act act.Shut = begun.Shut
short_act act.End = begun.End

-- the event that a long one stands for
abbrev pub long_event : LargeEvent → TracedEvent
long_event (long.Make n t m terms) = event.Phaser n (step.Make t m terms)
long_event (long.Async t c pairs) = event.Begin t (begun.Async c pairs)
long_event (long.Refuse t a n) = event.Refuse t a n

-- the event that is lent
abbrev pub viewed : EventView → TracedEvent
viewed (Phaser n s) = event.Phaser n (short_step s)
viewed (Finish f e) = event.Finish f e
viewed (Begin t a) = event.Begin t (short_act a)
viewed (Fail t n) = event.Fail t n
viewed (Long e) = long_event e.now
