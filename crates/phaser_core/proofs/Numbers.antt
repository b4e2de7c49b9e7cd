-- The number that is given out next is one that nobody ever had.
use Rattle.std.proofs.Common.{◌≡◌, ◌≢◌, ℕ, ◌+◌, ◌==◌, ◌≤◌, nat_lt, Bool, true, false, cond, List, [], ◌∷◌, length, Option, Some, None, ℤ, Ok, Err, refl, ap, ◌∙◌, arith, inl, inr}
use Rattle.std.proofs.lemmas.Bool.{false_from_ne_true, or_cases, eqb-true, lt-ltb}
use Rattle.phase_modes.specs.declared.limits.Limits.{Limits}
use Rattle.phase_modes.specs.declared.reg.Mode.{Mode}
use Rattle.phase_modes.specs.declared.refusal.Refusal.{Refusal}
use Rattle.phase_modes.specs.declared.refusal.Refusal.TheVariants.{NotRegistered, MoreThanParent, TasksFull, RegisteredTwice, RegsFull}
use Rattle.phase_modes.specs.Refusal.{first_refusal}
use Rattle.phase_model.specs.declared.history.Event.{Event}
use Rattle.phase_model.specs.declared.history.Event.TheVariants.{Claim, Pass, Reg}
use Rattle.phase_model.specs.declared.call.Call.{Call}
use Rattle.phase_model.specs.declared.call.Call.TheVariants.{Send as send, Register as register}
use Rattle.phase_model.specs.Tasks.{registers, is_registered, is_live, live_count}
use Rattle.phase_model.specs.Conditions.{conditions, is_within_task}
use Rattle.phase_model.specs.Rules.{Story, has_room}
use Rattle.phase_model.specs.Replies.{Reply, reply, refused, not_yet, done, after, done_result, decided, must_wait, event_for}
use Rattle.phaser_core.specs.LongLife.{AreBelow, IsNumbered}

pub next_fresh : (n : ℕ) (h : List Event) → AreBelow n h → is_registered n h ≡ false
next_fresh n h below =
    false_from_ne_true (is_registered n h) (λ e. let less = below n e in absurd (omega (arith, less)))

-- after an event that registers nobody
below_by : (n : ℕ) (s : Story) (o : Option Refusal) (w b : Bool) (e : Event) → ((t : ℕ) → registers t e ≡ false)
    → AreBelow n s.past → AreBelow n (after s (decided o w b e)).past
below_by n s (Some r) w b e none below = below
below_by n s None true b e none below = below
below_by n s None false false e none below = below
below_by n s None false true e none below = λ t k. below t (rw none at k)

limits_by : (s : Story) (r : Reply) → (after s r).limits ≡ s.limits
limits_by s (refused r) = refl
limits_by s not_yet = refl
limits_by s (done e) = refl

-- no call makes the history shorter
no_shorter : (s : Story) (r : Reply) → length s.past ≤ length (after s r).past
no_shorter s (refused r) = omega arith
no_shorter s not_yet = omega arith
no_shorter s (done e) = omega arith

-- one that is done makes it longer by one event
longer : (s : Story) (r : Reply) → done_result r ≡ Ok tt → length (after s r).past ≡ length s.past + 1
longer s (refused r) k = absurd cc
longer s not_yet k = absurd cc
longer s (done e) k = omega arith

-- after a call that registers nobody
pub numbered_after : (n : ℕ) (s : Story) (c : Call)
    → ((t : ℕ) → registers t (event_for s.limits s.terms s.past c) ≡ false)
    → IsNumbered n s → IsNumbered n (after s (reply s c))
numbered_after n s c none i =
    let e = event_for s.limits s.terms s.past c in
    record {
      limits = limits_by s (reply s c) ∙ i.limits;
      below = below_by n s (first_refusal (conditions s.limits s.terms s.past c))
          (must_wait s.limits s.terms s.past c) (has_room s.limits (e ∷ s.past)) e none i.below;
      few = omega (arith, i.few, no_shorter s (reply s c));
    }

-- a send registers nobody, whatever is sent
pub numbered_send : (n : ℕ) (s : Story) (t a : ℕ) (v : ℤ) → IsNumbered n s
    → IsNumbered n (after s (reply s (send t a v)))
numbered_send n s t a v i = numbered_after n s (send t a v) (λ u. refl) i

-- a pass registers nobody, whether it claims or passes
pub passes_none : (b : Bool) (t u : ℕ) → registers u (cond b (Claim t) (Pass t)) ≡ false
passes_none true t u = refl
passes_none false t u = refl

-- after an event that registers the next number
more_by : (n : ℕ) (s : Story) (o : Option Refusal) (w b : Bool) (e : Event) → ((t : ℕ) → registers t e ≡ (n == t))
    → AreBelow n s.past → AreBelow (n + 1) (after s (decided o w b e)).past
more_by n s (Some r) w b e one below t k = let less = below t k in omega (arith, less)
more_by n s None true b e one below t k = let less = below t k in omega (arith, less)
more_by n s None false false e one below t k = let less = below t k in omega (arith, less)
more_by n s None false true e one below t k =
    elim (or_cases (n == t) (is_registered t s.past) (rw one at k)) [
      | inl same ↦ let is = eqb-true n t same in omega (arith, is)
      | inr early ↦ let less = below t early in omega (arith, less)
    ]

-- once it is given out, all are below the one after it
pub numbered_more : (n : ℕ) (s : Story) (c : Call)
    → ((t : ℕ) → registers t (event_for s.limits s.terms s.past c) ≡ (n == t))
    → done_result (reply s c) ≡ Ok tt → IsNumbered n s → IsNumbered (n + 1) (after s (reply s c))
numbered_more n s c one made i =
    let e = event_for s.limits s.terms s.past c in
    record {
      limits = limits_by s (reply s c) ∙ i.limits;
      below = more_by n s (first_refusal (conditions s.limits s.terms s.past c))
          (must_wait s.limits s.terms s.past c) (has_room s.limits (e ∷ s.past)) e one i.below;
      few = omega (arith, i.few, longer s (reply s c) made);
    }

-- a call that was refused leaves all as it was
pub numbered_same : (n : ℕ) (s : Story) (r : Reply) (x : Refusal) → done_result r ≡ Err x
    → IsNumbered n s → IsNumbered n (after s r)
numbered_same n s (refused y) x k i = i
numbered_same n s not_yet x k i = i
numbered_same n s (done e) x k i = absurd cc

-- a registration isn't refused for its number
abbrev IsNumbersFree : Reply → Type 0
IsNumbersFree r = (done_result r ≢ Err RegisteredTwice) × (done_result r ≢ Err TasksFull)

-- where the number is low enough, and nobody ever had it
free_where_met : (a b c w room : Bool) (e : Event)
    → IsNumbersFree (decided (first_refusal ((NotRegistered, a)
    ∷ (MoreThanParent, b)
    ∷ (TasksFull, true)
    ∷ (RegisteredTwice, true)
    ∷ (RegsFull, c)
    ∷ [])) w room e)
free_where_met false b c w room e = (λ k. absurd cc, λ k. absurd cc)
free_where_met true false c w room e = (λ k. absurd cc, λ k. absurd cc)
free_where_met true true false w room e = (λ k. absurd cc, λ k. absurd cc)
free_where_met true true true true room e = (λ k. absurd cc, λ k. absurd cc)
free_where_met true true true false true e = (λ k. absurd cc, λ k. absurd cc)
free_where_met true true true false false e = (λ k. absurd cc, λ k. absurd cc)

-- so the next number is free
pub next_is_free : (n : ℕ) (s : Story) (q : ℕ) (m : Mode) → IsNumbered n s → length s.past ≤ s.limits.history
    → IsNumbersFree (reply s (register q n m))
next_is_free n s q m i within =
    let low : nat_lt n s.limits.tasks ≡ true =
    lt-ltb n s.limits.tasks
    (omega (arith, i.few, within, ap (λ (l : Limits). l.history) i.limits, ap (λ (l : Limits). l.tasks) i.limits)) in
    rw (low, next_fresh n s.past i.below)
    (free_where_met (is_live q s.past) (is_within_task m q s.past) (nat_lt (live_count s.past) s.limits.regs) _ _
    (Reg q n m))
