-- Limits and events with wider numbers are the same limits and events: only what their numbers have room for differs.
use Rattle.phase_modes.specs.declared.limits.Limits.{Limits}
use Rattle.phase_model.specs.declared.history.Event.{Event}
use Rattle.phase_model.specs.declared.history.Event.TheVariants.{Make, Reg, Sig, Claim, Did, Pass, Send, Look, Drop}
use Rattle.told_history.specs.declared.wide.LongLimits.{LongLimits}
use Rattle.told_history.specs.declared.wide.LongEvent.{LongEvent}
use Rattle.told_history.specs.declared.wide.LongEvent.TheVariants as long

-- the limits with these numbers
abbrev pub limits_of : LongLimits → Limits
limits_of l = record {
  acts = l.acts;
  finishes = l.finishes;
  history = l.history;
  phasers = l.phasers;
  regs = l.regs;
  tasks = l.tasks;
}

-- the event with these numbers
abbrev pub event_of : LongEvent → Event
event_of (long.Make t m) = Make t m
event_of (long.Reg q t m) = Reg q t m
event_of (long.Sig t x) = Sig t x
event_of (long.Claim t) = Claim t
event_of (long.Did t) = Did t
event_of (long.Pass t) = Pass t
event_of (long.Send t a v) = Send t a v
event_of (long.Look t a x) = Look t a x
event_of (long.Drop t) = Drop t
