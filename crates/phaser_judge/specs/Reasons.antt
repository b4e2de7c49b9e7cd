-- Why an event is refused: what the phaser replies to the call that would make it.
use Rattle.std.specs.Prelude.{ℕ, ◌≡◌, if◌then◌else◌, List, ◌∷◌, ◌++◌, reverse, Option, Some, None, Result, Ok, Err, ℤ}
use Rattle.phase_modes.specs.declared.refusal.Refusal.{Refusal}
use Rattle.phase_model.specs.declared.op.Look.{Look}
use Rattle.phase_model.specs.declared.answer.Signalling.{Signalling}
use Rattle.phase_model.specs.declared.answer.Signalling.TheVariants.{Signalled}
use Rattle.phase_model.specs.declared.answer.Signalling.TheVariants as signallings
use Rattle.phase_model.specs.declared.answer.Passing.{Passing}
use Rattle.phase_model.specs.declared.answer.Passing.TheVariants.{Passed, Claimed, NotYet}
use Rattle.phase_model.specs.declared.history.Event.{Event}
use Rattle.phase_model.specs.declared.history.Event.TheVariants.{Make, Reg, Sig, Claim, Did, Pass, Send, Look as Looked, Drop}
use Rattle.phase_model.specs.declared.call.Call.{Call}
use Rattle.phase_model.specs.declared.call.Call.TheVariants.{Make as make, Register as register, Signal as signal, Pass as pass, SingleDone as single_done, Send as send, Look as look, Drop as drop_task}
use Rattle.phase_model.specs.Rules.{Story, same_look}
use Rattle.phase_model.specs.Replies.{Reply, reply, done_result}
use Rattle.phase_model.specs.Answers.{signal_result, pass_result, look_result}
use Rattle.phaser_judge.specs.declared.event.Named.{Named}
use Rattle.phaser_judge.specs.declared.event.Named.TheVariants as named
use Rattle.phaser_judge.specs.declared.refused.Refused.{Refused}
use Rattle.phaser_judge.specs.declared.refused.Refused.TheVariants.{Rule, HadToWait, ClaimsInstead, PassesInstead, SawOther, NotMade}
use Rattle.phaser_judge.specs.declared.event.NamedEvent.{NamedEvent}
use Rattle.phaser_judge.specs.Standings.{Standing, standing, renamed_event}
use Rattle.phaser_judge.specs.Renaming.{AreLegal}

-- the call that makes an event, if it is answered so
abbrev pub call_of : Event → Call
call_of (Make t m) = make t m
call_of (Reg q t m) = register q t m
call_of (Sig t x) = signal t x
call_of (Claim t) = pass t
call_of (Did t) = single_done t
call_of (Pass t) = pass t
call_of (Send t a v) = send t a v
call_of (Looked t a x) = look t a
call_of (Drop t) = drop_task t

-- a call without a result of its own was done, or refused
abbrev pub by_rule : Result (Unit {0}) Refusal → Result (Unit {0}) Refused
by_rule (Ok u) = Ok tt
by_rule (Err r) = Err (Rule r)

-- a signal was done, or had to wait, or was refused
abbrev pub by_signal : Result Signalling Refusal → Result (Unit {0}) Refused
by_signal (Ok Signalled) = Ok tt
by_signal (Ok signallings.NotYet) = Err HadToWait
by_signal (Err r) = Err (Rule r)

-- a pass passed
abbrev pub by_pass : Result (Passing ℕ) Refusal → Result (Unit {0}) Refused
by_pass (Ok (Passed p)) = Ok tt
by_pass (Ok (Claimed n)) = Err ClaimsInstead
by_pass (Ok NotYet) = Err HadToWait
by_pass (Err r) = Err (Rule r)

-- a pass claimed the single
abbrev pub by_claim : Result (Passing ℕ) Refusal → Result (Unit {0}) Refused
by_claim (Ok (Passed p)) = Err PassesInstead
by_claim (Ok (Claimed n)) = Ok tt
by_claim (Ok NotYet) = Err HadToWait
by_claim (Err r) = Err (Rule r)

-- a look saw x
abbrev pub by_look : Look ℤ → Result (Look ℤ) Refusal → Result (Unit {0}) Refused
by_look x (Ok y) = if same_look x y then Ok tt else Err (SawOther y)
by_look x (Err r) = Err (Rule r)

-- what a reply to an event's call says of the event
abbrev pub said_by : List Event → Event → Reply → Result (Unit {0}) Refused
said_by h (Make t m) r = by_rule (done_result r)
said_by h (Reg q t m) r = by_rule (done_result r)
said_by h (Sig t x) r = by_signal (signal_result r)
said_by h (Claim t) r = by_claim (pass_result h r)
said_by h (Did t) r = by_rule (done_result r)
said_by h (Pass t) r = by_pass (pass_result h r)
said_by h (Send t a v) r = by_rule (done_result r)
said_by h (Looked t a x) r = by_look x (look_result r)
said_by h (Drop t) r = by_rule (done_result r)

-- what the story's phaser says of an event
abbrev pub said : Story → Event → Result (Unit {0}) Refused
said s e = said_by s.past e (reply s (call_of e))

-- the same of an event that may have no numbers
abbrev pub said_of : Story → Result Event Refused → Result (Unit {0}) Refused
said_of s (Ok e) = said s e
said_of s (Err r) = Err r

-- what the judge says of the event at a phaser that stands so, memory aside
abbrev pub verdict : Standing → Named → Result (Unit {0}) Refused
verdict s e = said_of s.story (renamed_event s e)

-- the same, whether the phaser is there or not
abbrev pub verdict_at : Option Standing → Named → Result (Unit {0}) Refused
verdict_at None (named.Make t m ops b) = Ok tt
verdict_at None _ = Err NotMade
verdict_at (Some s) e = verdict s e

-- the first of these events that can't happen after those before it, the oldest first, is refused for this reason
pub record IsFirstRefused (events : List NamedEvent) (why : Refused) : Type 0 where
  pub before : List NamedEvent
  pub event : NamedEvent
  pub rest : List NamedEvent
  pub split : events ≡ before ++ event ∷ rest
  pub legal : AreLegal (reverse before)
  pub illegal : AreLegal (event ∷ reverse before) → ⊥
  pub refused : verdict_at (standing event.phaser (reverse before)) event.event ≡ Err why
