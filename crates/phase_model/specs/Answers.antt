-- What the calls return that have an answer of their own.
use Rattle.std.specs.Prelude.{List, ◌∷◌, Result, Ok, Err, unwrap_or, ℤ, ℕ}
use Rattle.phase_modes.specs.declared.refusal.Refusal.{Refusal}
use Rattle.phase_modes.specs.declared.refusal.Refusal.TheVariants.{NotNow}
use Rattle.phase_model.specs.declared.history.Event.{Event}
use Rattle.phase_model.specs.declared.history.Event.TheVariants.{Pass, Claim, Look as Looked}
use Rattle.phase_model.specs.declared.op.Look.{Look}
use Rattle.phase_model.specs.Phases.{waits}
use Rattle.phase_model.specs.Singles.{number_of}
use Rattle.phase_model.specs.declared.terms.Terms.{Terms}
use Rattle.phase_model.specs.Rules.{Story}
use Rattle.phase_model.specs.Replies.{Reply, refused, not_yet, done}
use Rattle.phase_model.specs.declared.answer.Signalling.{Signalling}
use Rattle.phase_model.specs.declared.answer.Signalling.TheVariants.{Signalled}
use Rattle.phase_model.specs.declared.answer.Signalling.TheVariants as signallings
use Rattle.phase_model.specs.declared.answer.Passing.{Passing}
use Rattle.phase_model.specs.declared.answer.Passing.TheVariants.{Passed, Claimed, NotYet}

-- what a `signal` returns
abbrev pub signal_result : Reply → Result Signalling Refusal
signal_result (refused r) = Err r
signal_result not_yet = Ok signallings.NotYet
signal_result (done e) = Ok Signalled

-- the answer to the event that was added to this history; no other event answers a pass
abbrev pub passing : List Event → Event → Result (Passing ℕ) Refusal
passing h (Pass t) = Ok (Passed (waits t h))
passing h (Claim t) = Ok (Claimed (unwrap_or (number_of (waits t h) h) 0))
passing h _ = Err NotNow

-- what a `pass` returns
abbrev pub pass_result : List Event → Reply → Result (Passing ℕ) Refusal
pass_result h (refused r) = Err r
pass_result h not_yet = Ok NotYet
pass_result h (done e) = passing h e

-- the answer that the event holds; no other event answers a look
abbrev pub seen : Event → Result (Look ℤ) Refusal
seen (Looked t a x) = Ok x
seen _ = Err NotNow

-- what a `look` returns; it never waits
abbrev pub look_result : Reply → Result (Look ℤ) Refusal
look_result (refused r) = Err r
look_result not_yet = Err NotNow
look_result (done e) = seen e

-- the story after a phaser was asked to be made with these operators
abbrev pub made_with : Story → Terms → Reply → Story
made_with s terms (refused r) = s
made_with s terms not_yet = s
made_with s terms (done e) = record { limits = s.limits; terms = terms; past = e ∷ s.past }
