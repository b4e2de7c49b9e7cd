-- Which traces a world explains, and where a trace is first at fault.
use Rattle.std.specs.Prelude.{ℕ, ◌+◌, Bool, true, false, ◌&&◌, ◌==◌, nat_lt, if◌then◌else◌, List, [], ◌∷◌, map, reverse, length, Option, Some, None, Result, Ok, ℤ}
use Rattle.std.specs.List.{list_any}
use Rattle.phase_modes.specs.declared.limits.Limits.{Limits}
use Rattle.phase_modes.specs.declared.refusal.Refusal.{Refusal}
use Rattle.phase_model.specs.declared.op.Look.{Look}
use Rattle.phase_model.specs.Rules.{same_look}
use Rattle.finish_core.specs.declared.event.FinishEvent.TheVariants.{Shut}
use Rattle.world_model.specs.declared.event.Step.{Step}
use Rattle.world_model.specs.declared.event.Step.TheVariants as plain
use Rattle.world_model.specs.declared.event.WorldEvent.{WorldEvent}
use Rattle.world_model.specs.declared.event.WorldEvent.TheVariants as world
use Rattle.world_model.specs.declared.reply.Reply.{Reply}
use Rattle.world_model.specs.declared.reply.Reply.TheVariants.{Value}
use Rattle.world_model.specs.Replies.{reply, is_made}
use Rattle.trace_model.specs.declared.event.TracedStep.{TracedStep}
use Rattle.trace_model.specs.declared.event.TracedStep.TheVariants as step
use Rattle.trace_model.specs.declared.event.TracedEvent.{TracedEvent}
use Rattle.trace_model.specs.declared.event.TracedEvent.TheVariants.{Phaser, Finish, Begin, Refuse, Fail}
use Rattle.trace_model.specs.Run.{Entry, Run}

-- the step of the world: what a look saw is no part of it
abbrev pub step_of : TracedStep → Step
step_of (step.Make t m terms) = plain.Make t m terms
step_of (step.Reg q t m) = plain.Reg q t m
step_of (step.Sig t x) = plain.Sig t x
step_of (step.Claim t) = plain.Claim t
step_of (step.Did t) = plain.Did t
step_of (step.Pass t) = plain.Pass t
step_of (step.Send t a v) = plain.Send t a v
step_of (step.Look t a x) = plain.Look t a
step_of (step.Drop t) = plain.Drop t

-- the event of the world
abbrev pub event_of : TracedEvent → WorldEvent
event_of (Phaser n s) = world.Phaser n (step_of s)
event_of (Finish f e) = world.Finish f e
event_of (Begin t b) = world.Begin t b
event_of (Refuse t a n) = world.Refuse t a n
event_of (Fail t n) = world.Fail t n

-- the world's history that these entries are, both with the newest first
abbrev pub past : List Entry → List WorldEvent
past es = map (λ e. event_of e.1) es

-- the reply to a look is what it saw
abbrev pub is_seen : Look ℤ → Result Reply Refusal → Bool
is_seen x (Ok (Value y)) = same_look y x
is_seen x _ = false

-- with this reply the event is made, and a look saw what was answered
abbrev pub is_answered : TracedEvent → Result Reply Refusal → Bool
is_answered (Phaser n (step.Look t a x)) r = is_seen x r
is_answered _ r = is_made r

-- the ticket is greater than the newest one of these
abbrev pub is_later : ℕ → List Entry → Bool
is_later ticket [] = true
is_later ticket (e ∷ es) = nat_lt e.0 ticket

-- the entry may follow these, the newest first: its ticket is greater, and the world makes its event there
abbrev pub may_follow : Limits → List Entry → Entry → Bool
may_follow l es e = is_later e.0 es && is_answered e.1 (reply l (past es) (event_of e.1))

-- each entry may follow those before it
abbrev pub all_follow : Limits → List Entry → Bool
all_follow l [] = true
all_follow l (e ∷ es) = may_follow l es e && all_follow l es

-- the event is the shut of finish 0, with which a run ends
abbrev pub ends_run : TracedEvent → Bool
ends_run (Finish f Shut) = f == 0
ends_run _ = false

-- the run has ended
abbrev pub is_over : List Entry → Bool
is_over es = list_any (λ e. ends_run e.1) es

-- the trace is one of a whole run: its tickets strictly rise, each event is made in the world that those before it leave, each look saw what is answered there, and finish 0 is shut
abbrev pub is_explained : Run → Bool
is_explained r = let es = reverse r.events in all_follow r.limits es && is_over es

-- the place of the first of the entries that may not follow those before it, the newest of these first; if all may, the place after the last, unless the run has ended
abbrev pub fault_after : Limits → List Entry → List Entry → Option ℕ
fault_after l before [] = if is_over before then None else Some (length before + 1)
fault_after l before (e ∷ es) =
    if may_follow l before e then fault_after l (e ∷ before) es
    else Some (length before + 1)

-- the place at which a trace is first at fault, counted from 1
abbrev pub first_fault : Run → Option ℕ
first_fault r = fault_after r.limits [] r.events
