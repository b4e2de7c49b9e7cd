-- What an answer says of the call that was made, and of the test before it.
use Rattle.std.proofs.Common.{◌≡◌, ℕ, zero, suc, ◌<◌, ◌==◌, Bool, true, false, cond, List, [], ◌∷◌, Option, Some, None, length, get_or, Result, Ok, Err, refl, sym, arith}
use Rattle.phase_modes.specs.declared.limits.Limits.{Limits}
use Rattle.phase_modes.specs.declared.refusal.Refusal.{Refusal}
use Rattle.phase_modes.specs.declared.refusal.Refusal.TheVariants.{NotNow}
use Rattle.phase_model.specs.declared.call.Call.{Call}
use Rattle.phase_model.specs.declared.history.Event.{Event}
use Rattle.phase_model.specs.Rules.{Story}
use Rattle.phase_model.specs.Replies as phaser
use Rattle.phase_model.specs.Replies.{decided, done, done_result}
use Rattle.world_model.specs.declared.reply.Reply.{Reply}
use Rattle.world_model.specs.declared.reply.Reply.TheVariants.{Done}
use Rattle.world_model.specs.PartReplies.{returned}
use Rattle.world_model.specs.Replies.{is_made}
use Rattle.world_records.specs.declared.plan.Plan.{Plan}
use Rattle.world_records.specs.declared.plan.Plan.TheVariants as plan
use Rattle.world_records.specs.TaskState.{TaskState}
use Rattle.world_records.specs.WorldState.{WorldState}
use Rattle.world_records.specs.Kept.{blank_task, blank_story, is_idle_plan}
use Rattle.world_records.specs.inner.Steps.{done_by, state_by}

pub idle_plan : (p : Plan) → is_idle_plan p ≡ true → p ≡ plan.Idle
idle_plan plan.Idle e = refl
idle_plan (plan.Signalling x turn) e = absurd cc
idle_plan plan.Turning e = absurd cc
idle_plan (plan.Spawning c pairs made) e = absurd cc
idle_plan plan.Shutting e = absurd cc
idle_plan (plan.Ending c) e = absurd cc

-- what is made was done
pub made_ok : (u : Result (Unit {0}) Refusal) → is_made (done_by u) ≡ true → u ≡ Ok tt
made_ok (Ok u) e = refl
made_ok (Err r) e = absurd cc

-- what isn't made leaves the state
pub unchanged_by : (u : Result (Unit {0}) Refusal) (s new : WorldState) → is_made (done_by u) ≡ false → state_by u s new ≡ s
unchanged_by (Ok u) s new e = absurd cc
unchanged_by (Err r) s new e = refl

-- what was done after a test passed it
pub asked_and_done : (b : Bool) (u : Result (Unit {0}) Refusal) → cond b u (Err NotNow) ≡ Ok tt → (b ≡ true) × (u ≡ Ok tt)
asked_and_done true u e = (refl, e)
asked_and_done false u e = absurd cc

-- a call that was done adds its event
pub settled_as : (o : Option Refusal) (room : Bool) (e : Event) → done_result (decided o false room e) ≡ Ok tt → decided o false room e ≡ done e
settled_as (Some r) room e k = absurd cc
settled_as None true e k = refl
settled_as None false e k = absurd cc

-- a phaser's reply to a call that has no result of its own, as the world's
pub done_as : (h : List Event) (o : Option Refusal) (room : Bool) (e : Event) → returned h (done e) ≡ Ok Done → done_by (done_result (decided o false room e)) ≡ returned h (decided o false room e)
done_as h (Some r) room e k = refl
done_as h None true e k = sym k
done_as h None false e k = refl

-- the answer behind a test, where the tests agree
pub answer_by : (b c : Bool) (r : Result Reply Refusal) (u : Result (Unit {0}) Refusal) → b ≡ c → done_by u ≡ r → done_by (cond b u (Err NotNow)) ≡ cond c r (Err NotNow)
answer_by true true r u e k = k
answer_by true false r u e k = absurd cc
answer_by false true r u e k = absurd cc
answer_by false false r u e k = refl

-- a phaser that did a call which a blank one refuses stands in the table
pub called_within : (l : Limits) (xs : List Story) (n : ℕ) (c : Call) → (done_result (phaser.reply (blank_story l) c) ≡ Ok tt → ⊥) → done_result (phaser.reply (get_or xs n (blank_story l)) c) ≡ Ok tt → n < length xs
called_within l [] n c blank e = absurd (blank e)
called_within l (y ∷ ys) zero c blank e = omega arith
called_within l (y ∷ ys) (suc n) c blank e = omega (arith, called_within l ys n c blank e)

-- a task that was named has a line
pub named_within : (ks : List TaskState) (c : ℕ) → (get_or ks c blank_task).is_named ≡ true → c < length ks
named_within [] c e = absurd cc
named_within (k ∷ ks) zero e = omega arith
named_within (k ∷ ks) (suc c) e = omega (arith, named_within ks c e)

pub swapped : (a b : ℕ) (x : Bool) → (a == b) ≡ x → (b == a) ≡ x
swapped a b x h = grind arith
