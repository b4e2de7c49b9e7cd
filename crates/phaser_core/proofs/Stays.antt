-- A call that was not done adds nothing.
use Rattle.std.proofs.Common.{◌≡◌, ℕ, Bool, true, false, List, ◌∷◌, Option, Some, None, Ok, Err, cond, refl, ℤ}
use Rattle.phase_modes.specs.declared.refusal.Refusal.{Refusal}
use Rattle.phase_modes.specs.Refusal.{first_refusal}
use Rattle.phase_model.specs.declared.history.Event.{Event}
use Rattle.phase_model.specs.declared.history.Event.TheVariants.{Make, Reg, Sig, Claim, Did, Pass, Send, Look as Looked, Drop}
use Rattle.phase_model.specs.declared.op.Look.{Look}
use Rattle.phase_model.specs.Phases.{waits}
use Rattle.phase_model.specs.Rules.{Story, has_room, look_of, is_permitted}
use Rattle.phase_model.specs.Conditions.{conditions}
use Rattle.phase_model.specs.declared.call.Call.TheVariants.{Look as look, Pass as pass}
use Rattle.phase_model.specs.Replies.{Reply, reply, refused, not_yet, done, after, done_result, decided, must_wait}
use Rattle.phase_model.specs.Answers.{signal_result, pass_result, look_result}
use Rattle.phase_model.specs.declared.answer.Signalling.TheVariants.{NotYet}
use Rattle.phase_model.specs.declared.answer.Passing.TheVariants as passings

pub done_stays : (s : Story) (r : Reply) (x : Refusal) → done_result r ≡ Err x → after s r ≡ s
done_stays s (refused y) x k = refl
done_stays s not_yet x k = refl
done_stays s (done e) x k = absurd cc

pub signal_stays : (s : Story) (r : Reply) → signal_result r ≡ Ok NotYet → after s r ≡ s
signal_stays s (refused y) k = refl
signal_stays s not_yet k = refl
signal_stays s (done e) k = absurd cc

pub pass_stays : (s : Story) (h : List Event) (r : Reply) → pass_result h r ≡ Ok passings.NotYet → after s r ≡ s
pass_stays s h (refused y) k = refl
pass_stays s h not_yet k = refl
pass_stays s h (done (Make t m)) k = absurd cc
pass_stays s h (done (Reg q t m)) k = absurd cc
pass_stays s h (done (Sig t x)) k = absurd cc
pass_stays s h (done (Claim t)) k = absurd cc
pass_stays s h (done (Did t)) k = absurd cc
pass_stays s h (done (Pass t)) k = absurd cc
pass_stays s h (done (Send t a v)) k = absurd cc
pass_stays s h (done (Looked t a x)) k = absurd cc
pass_stays s h (done (Drop t)) k = absurd cc

look_by : (s : Story) (o : Option Refusal) (b : Bool) (t a : ℕ) (y : Look ℤ) (x : Refusal)
    → look_result (decided o false b (Looked t a y)) ≡ Err x → after s (decided o false b (Looked t a y)) ≡ s
look_by s (Some r) b t a y x k = refl
look_by s None true t a y x k = absurd cc
look_by s None false t a y x k = refl

pub look_stays : (s : Story) (t a : ℕ) (x : Refusal) → look_result (reply s (look t a)) ≡ Err x
    → after s (reply s (look t a)) ≡ s
look_stays s t a x k =
    let y = look_of s.terms.ops a (waits t s.past) s.past in
    look_by s (first_refusal (conditions s.limits s.terms s.past (look t a)))
    (has_room s.limits (Looked t a y ∷ s.past)) t a y x k

pub signal_refused : (s : Story) (r : Reply) (x : Refusal) → signal_result r ≡ Err x → after s r ≡ s
signal_refused s (refused y) x k = refl
signal_refused s not_yet x k = absurd cc
signal_refused s (done e) x k = absurd cc

pass_by : (s : Story) (h : List Event) (o : Option Refusal) (w b claims : Bool) (t : ℕ) (x : Refusal)
    → pass_result h (decided o w b (cond claims (Claim t) (Pass t))) ≡ Err x
    → after s (decided o w b (cond claims (Claim t) (Pass t))) ≡ s
pass_by s h (Some r) w b claims t x k = refl
pass_by s h None true b claims t x k = refl
pass_by s h None false false claims t x k = refl
pass_by s h None false true true t x k = absurd cc
pass_by s h None false true false t x k = absurd cc

pub pass_refused : (s : Story) (t : ℕ) (x : Refusal) → pass_result s.past (reply s (pass t)) ≡ Err x
    → after s (reply s (pass t)) ≡ s
pass_refused s t x k =
    let claims = is_permitted s.limits s.terms s.past (Claim t) in
    pass_by s s.past (first_refusal (conditions s.limits s.terms s.past (pass t)))
    (must_wait s.limits s.terms s.past (pass t)) (has_room s.limits (cond claims (Claim t) (Pass t) ∷ s.past)) claims t x k
