-- What the calls of a phaser return, as replies.
use Rattle.std.specs.Prelude.{Result, Ok, Err, ℤ, ℕ}
use Rattle.phase_modes.specs.declared.refusal.Refusal.{Refusal}
use Rattle.phase_model.specs.declared.op.Look.{Look}
use Rattle.phase_model.specs.declared.call.Reply.{Reply}
use Rattle.phase_model.specs.declared.call.Reply.TheVariants.{Done, Phase, Claim, Saw, NotYet, Refused}
use Rattle.phase_model.specs.declared.answer.Signalling.{Signalling}
use Rattle.phase_model.specs.declared.answer.Signalling.TheVariants.{Signalled}
use Rattle.phase_model.specs.declared.answer.Signalling.TheVariants as signallings
use Rattle.phase_model.specs.declared.answer.Passing.{Passing}
use Rattle.phase_model.specs.declared.answer.Passing.TheVariants.{Passed, Claimed}
use Rattle.phase_model.specs.declared.answer.Passing.TheVariants as passings

-- of a call without a result of its own
abbrev pub done_reply : Result (Unit {0}) Refusal → Reply
done_reply (Ok u) = Done
done_reply (Err r) = Refused r

-- of a `signal`
abbrev pub signal_reply : Result Signalling Refusal → Reply
signal_reply (Ok Signalled) = Done
signal_reply (Ok signallings.NotYet) = NotYet
signal_reply (Err r) = Refused r

-- of a `pass`
abbrev pub pass_reply : Result (Passing ℕ) Refusal → Reply
pass_reply (Ok (Passed p)) = Phase p
pass_reply (Ok (Claimed n)) = Claim n
pass_reply (Ok passings.NotYet) = NotYet
pass_reply (Err r) = Refused r

-- of a `look`
abbrev pub look_reply : Result (Look ℤ) Refusal → Reply
look_reply (Ok x) = Saw x
look_reply (Err r) = Refused r
