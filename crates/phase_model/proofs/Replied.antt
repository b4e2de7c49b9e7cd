-- A call is done only where its event may follow.
use Rattle.std.proofs.Common.{◌≡◌, ℕ, Bool, true, false, ◌||◌, ◌&&◌, not, cond, List, [], ◌∷◌, Option, Some, None, refl, ap, sym, ◌∙◌, subst, inl, inr, ℤ}
use Rattle.std.proofs.lemmas.Bool.Decides.{Decides-int_eq}
use Rattle.std.proofs.lemmas.Bool.{and_from, cases_Bool, not-false}
use Rattle.phase_model.specs.declared.op.Look.{Look}
use Rattle.phase_model.specs.declared.op.Look.TheVariants.{Value, Nothing}
use Rattle.phase_modes.specs.declared.limits.Limits.{Limits}
use Rattle.phase_modes.specs.declared.refusal.Refusal.{Refusal}
use Rattle.phase_modes.specs.Mode.{can_wait}
use Rattle.phase_model.specs.declared.history.Event.{Event}
use Rattle.phase_model.specs.declared.history.Event.TheVariants.{Claim, Pass}
use Rattle.phase_model.specs.declared.terms.Terms.{Terms}
use Rattle.phase_model.specs.Tasks.{has_mode}
use Rattle.phase_model.specs.Phases.{waits, is_closed, signals, is_within_bound}
use Rattle.phase_model.specs.Singles.{is_settled}
use Rattle.phase_model.specs.Rules.{Story, is_permitted, is_allowed, is_legal, has_room, same_look, look_of}
use Rattle.phase_modes.specs.Refusal.{first_refusal, are_met}
use Rattle.phase_modes.proofs.FirstRefusal.{met_where_none}
use Rattle.phase_model.specs.Laws.{IsLegal, after_calls}
use Rattle.phase_model.specs.declared.call.Call.{Call}
use Rattle.phase_model.specs.declared.call.Call.TheVariants.{Make as make, Register as register, Signal as signal, Pass as pass, SingleDone as single_done, Send as send, Look as look, Drop as drop_task}
use Rattle.phase_model.specs.Conditions.{conditions}
use Rattle.phase_model.specs.Replies.{Reply, refused, not_yet, done, event_for, must_wait, decided, reply, after}

-- a reply by its parts
pub reply_by : (s : Story) (c : Call) (o : Option Refusal) (w : Bool) (e : Event)
    → first_refusal (conditions s.limits s.terms s.past c) ≡ o → must_wait s.limits s.terms s.past c ≡ w
    → event_for s.limits s.terms s.past c ≡ e
    → reply s c ≡ decided o w (has_room s.limits (e ∷ s.past)) e
reply_by s c o w e a b d =
    let f = event_for s.limits s.terms s.past c in
    let v = must_wait s.limits s.terms s.past c in
    ap (λ x. decided x v (has_room s.limits (f ∷ s.past)) f) a
    ∙ (ap (λ x. decided o x (has_room s.limits (f ∷ s.past)) f) b
    ∙ ap (λ x. decided o w (has_room s.limits (x ∷ s.past)) x) d)

pub record IsDone (o : Option Refusal) (waiting room : Bool) : Type 0 where
  pub no_cause : o ≡ None
  pub no_wait : waiting ≡ false
  pub has_room : room ≡ true

pub settled_done : (o : Option Refusal) (waiting room : Bool) (e f : Event)
    → decided o waiting room e ≡ done f → IsDone o waiting room × (e ≡ f)
settled_done (Some r) w b e f k = absurd cc
settled_done None true b e f k = absurd cc
settled_done None false true e f k = (record { no_cause = refl; no_wait = refl; has_room = refl }, cc)
settled_done None false false e f k = absurd cc

going : (m w x c : Bool) → m ≡ true → (w && not (m && (not w || x)) && not c) ≡ false → c ≡ false
    → (m && (not w || x)) ≡ true
going true false x c k n e = refl
going true true true c k n e = refl
going true true false true k n e = absurd cc
going true true false false k n e = absurd cc
going false w x c k n e = absurd cc

same_as_itself : (x : Look ℤ) → same_look x x ≡ true
same_as_itself (Value v) = (Decides-int_eq v v).1 refl
same_as_itself Nothing = refl

module _ (l : Limits) (terms : Terms) (h : List Event) where
  -- a pass that need not wait claims or passes
  passing : (t : ℕ) → are_met (conditions l terms h (pass t)) ≡ true → must_wait l terms h (pass t) ≡ false
      → is_permitted l terms h (event_for l terms h (pass t)) ≡ true
  passing t k w =
      elim (cases_Bool (is_permitted l terms h (Claim t))) [
        | inl e ↦ subst (λ b. is_permitted l terms h (cond b (Claim t) (Pass t)) ≡ true) (sym e) e
        | inr e ↦
            subst (λ b. is_permitted l terms h (cond b (Claim t) (Pass t)) ≡ true) (sym e)
            (going (are_met (conditions l terms h (pass t))) (has_mode can_wait t h) (is_closed (waits t h) h
            && is_settled (waits t h) h) (is_permitted l terms h (Claim t)) k w e)
      ]

  -- a call whose conditions are met, and that need not wait, has an event that may follow
  permitted : (c : Call) → are_met (conditions l terms h c) ≡ true → must_wait l terms h c ≡ false
      → is_permitted l terms h (event_for l terms h c) ≡ true
  permitted (make t m) k w = k
  permitted (register q t m) k w = k
  permitted (signal t x) k w =
      and_from (are_met (conditions l terms h (signal t x))) (is_within_bound terms.bound (signals t h) h) k
      (not-false (is_within_bound terms.bound (signals t h) h) w)
  permitted (pass t) k w = passing t k w
  permitted (single_done t) k w = k
  permitted (send t a v) k w = k
  permitted (look t a) k w =
      let x = look_of terms.ops a (waits t h) h in
      and_from (are_met (conditions l terms h (look t a))) (same_look x x) k (same_as_itself x)
  permitted (drop_task t) k w = k

-- the event of a call that is done may follow
pub done_is_allowed : (s : Story) (c : Call) (e : Event) → reply s c ≡ done e
    → is_allowed s.limits s.terms s.past e ≡ true
done_is_allowed s c e k =
    let f = event_for s.limits s.terms s.past c in
    let d =
    settled_done (first_refusal (conditions s.limits s.terms s.past c)) (must_wait s.limits s.terms s.past c)
    (has_room s.limits (f ∷ s.past)) f e k in
    subst (λ g. is_allowed s.limits s.terms s.past g ≡ true) d.1
    (and_from (is_permitted s.limits s.terms s.past f) (has_room s.limits (f ∷ s.past))
    (permitted s.limits s.terms s.past c
    (met_where_none (conditions s.limits s.terms s.past c) d.0.no_cause) d.0.no_wait) d.0.has_room)

-- a legal history stays legal, whatever is called
pub legal_after : (s : Story) (c : Call) → is_legal s.limits s.terms s.past ≡ true
    → is_legal (after s (reply s c)).limits (after s (reply s c)).terms (after s (reply s c)).past ≡ true
legal_after s c k = go (reply s c) refl
  where
    go : (r : Reply) → reply s c ≡ r → is_legal (after s r).limits (after s r).terms (after s r).past ≡ true
    go (refused r) e = k
    go not_yet e = k
    go (done f) e =
        and_from (is_allowed s.limits s.terms s.past f) (is_legal s.limits s.terms s.past)
        (done_is_allowed s c f e) k

-- and so over every list of calls
pub all_legal : (s : Story) (cs : List Call) → IsLegal s → IsLegal (after_calls s cs)
all_legal s [] k = k
all_legal s (c ∷ cs) k = all_legal (after s (reply s c)) cs (legal_after s c k)
