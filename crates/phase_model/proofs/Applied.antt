-- What the methods of a phaser return, as a reply, is what the caller gets of the definition's reply.
use Rattle.std.proofs.Common.{◌≡◌, ℕ, List, Bool, true, false, Option, None, Some, if◌then◌else◌, refl, sym, ℤ}
use Rattle.phase_modes.specs.declared.refusal.Refusal.{Refusal}
use Rattle.phase_model.specs.declared.history.Event.{Event}
use Rattle.phase_model.specs.declared.history.Event.TheVariants.{Sig, Claim, Pass, Look as Looked}
use Rattle.phase_model.specs.declared.op.Look.{Look}
use Rattle.phase_model.specs.declared.call.Reply.TheVariants.{Done}
use Rattle.phase_model.specs.Replies.{decided, done_result, returned, returned_for}
use Rattle.phase_model.specs.Answers.{signal_result, pass_result, look_result}
use Rattle.phase_model.specs.Outcomes.{done_reply, signal_reply, pass_reply, look_reply}

-- a call that never waits, and whose event has no result of its own
pub done_returned : (h : List Event) (o : Option Refusal) (room : Bool) (e : Event) → returned_for h e ≡ Done
    → done_reply (done_result (decided o false room e)) ≡ returned h (decided o false room e)
done_returned h None true e plain = sym plain
done_returned h None false e plain = refl
done_returned h (Some r) room e plain = refl

-- a `signal`
pub signal_returned : (h : List Event) (o : Option Refusal) (waiting room : Bool) (t : ℕ) (x : Option ℕ)
    → signal_reply (signal_result (decided o waiting room (Sig t x)))
    ≡ returned h (decided o waiting room (Sig t x))
signal_returned h (Some r) waiting room t x = refl
signal_returned h None true room t x = refl
signal_returned h None false true t x = refl
signal_returned h None false false t x = refl

-- a `pass`, which adds a claim or a pass
pub pass_returned : (h : List Event) (o : Option Refusal) (waiting room claims : Bool) (t : ℕ)
    → pass_reply (pass_result h (decided o waiting room (if claims then Claim t else Pass t)))
    ≡ returned h (decided o waiting room (if claims then Claim t else Pass t))
pass_returned h (Some r) waiting room claims t = refl
pass_returned h None true room claims t = refl
pass_returned h None false false claims t = refl
pass_returned h None false true true t = refl
pass_returned h None false true false t = refl

-- a `look`, which never waits
pub look_returned : (h : List Event) (o : Option Refusal) (room : Bool) (t a : ℕ) (x : Look ℤ)
    → look_reply (look_result (decided o false room (Looked t a x)))
    ≡ returned h (decided o false room (Looked t a x))
look_returned h (Some r) room t a x = refl
look_returned h None true t a x = refl
look_returned h None false t a x = refl
