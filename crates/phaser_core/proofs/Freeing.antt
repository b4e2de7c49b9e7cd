-- The calls that can wake somebody, where they wake nobody.
use Rattle.std.proofs.Common.{◌≡◌, ◌⊎◌, ℕ, Bool, true, false, ◌||◌, ◌&&◌, not, cond, List, [], ◌∷◌, Option, Some, None, is_some, refl, ap, sym, ◌∙◌, subst, inl, inr}
use Rattle.std.specs.Result.{is_ok}
use Rattle.std.proofs.lemmas.Bool.{cases_Bool, and_parts, and_from, or_parts}
use Rattle.phase_model.specs.declared.history.Event.{Event}
use Rattle.phase_model.specs.declared.history.Event.TheVariants.{Sig, Claim, Pass, Drop}
use Rattle.phase_model.specs.Laws.{IsLegal}
use Rattle.phase_model.specs.Rules.{Story, with_event, is_permitted, is_legal, is_allowed}
use Rattle.phase_model.specs.declared.call.Call.{Call}
use Rattle.phase_model.specs.declared.call.Call.TheVariants.{Signal as signal, SingleDone as single_done, Pass as pass, Drop as drop_task}
use Rattle.phase_model.specs.Replies.{Reply, refused, not_yet, done, reply, after, done_result, event_for}
use Rattle.phase_model.specs.Waiting.{would_wait, signal_would_wait, can_free}
use Rattle.phase_model.proofs.Replied.{done_is_allowed}
use Rattle.phaser_core.specs.declared.parked.Parked.{Parked}
use Rattle.phaser_core.specs.Settled.{IsSettled}
use Rattle.phaser_core.specs.declared.parked.ParkedCall.{ParkedCall}
use Rattle.phaser_core.specs.declared.parked.ParkedCall.TheVariants.{Pass as ToPass, Signal as ToSignal}
use Rattle.phaser_core.specs.Parking.{would_park, all_wait}
use Rattle.phaser_core.specs.Firsts.{is_pass, first_to_signal, is_phase_open, is_held_for, is_first_held}
use Rattle.phaser_core.proofs.HeldPhase.{held_past_pass}
use Rattle.phaser_core.proofs.Lists.{all_past_signal, all_past_closed_signal, all_past_drop, all_past_closed_drop}
use Rattle.phaser_core.proofs.Parks.{KeepsPassers, KeepsSignallers, all_stay, keeps_passers, keeps_signallers, unbounded_keeps}
use Rattle.phaser_core.proofs.Steps.{event_is, pass_frees_nobody, leaves}

still_open : (was now : Bool) → was ≡ true → (was && not now) ≡ false → now ≡ true
still_open true true a k = refl
still_open true false a k = absurd cc
still_open false now a k = absurd cc

-- an event that closes the phase of nobody who waits
abbrev ClosesNothing : {T : Type 0} → Story → Story → List (Parked T) → Type 0
ClosesNothing s s' ps = (is_phase_open s ps && not (is_phase_open s' ps)) ≡ false

-- nothing is closed where a closing would be a contradiction
pub closes_nothing : (was now : Bool) → (was ≡ true → now ≡ false → ⊥) → (was && not now) ≡ false
closes_nothing true true k = refl
closes_nothing true false k = absurd (k refl refl)
closes_nothing false now k = refl

-- and nobody leaves where neither his own drop nor a closing lets him
pub neither_leaves : (waits was now : Bool) → (waits ≡ true → ⊥) → (was ≡ true → now ≡ false → ⊥) → (waits || (was && not now)) ≡ false
neither_leaves true was now own k = absurd (own refl)
neither_leaves false was now own k = closes_nothing was now k

next_legal : (s : Story) (c : Call) (e : Event) → IsLegal s → reply s c ≡ done e → is_legal s.limits s.terms (e ∷ s.past) ≡ true
next_legal s c e legal k = and_from (is_allowed s.limits s.terms s.past e) (is_legal s.limits s.terms s.past) (done_is_allowed s c e k) legal

after_signal : {T : Type 0} (s : Story) (u : ℕ) (x : Option ℕ) (ps : List (Parked T)) → IsLegal s → is_legal s.limits s.terms (Sig u x ∷ s.past) ≡ true → KeepsSignallers s (with_event s (Sig u x)) → all_wait s ps ≡ true → ClosesNothing s (with_event s (Sig u x)) ps → all_wait (with_event s (Sig u x)) ps ≡ true
after_signal s u x ps legal next signallers all k =
    elim (cases_Bool (is_phase_open s ps)) [
      | inl was ↦ all_past_signal s u x ps legal next signallers all (still_open (is_phase_open s ps) (is_phase_open (with_event s (Sig u x)) ps) was k)
      | inr was ↦ all_past_closed_signal s u x ps legal next signallers all was
    ]

after_drop : {T : Type 0} (s : Story) (u : ℕ) (ps : List (Parked T)) → IsLegal s → KeepsSignallers s (with_event s (Drop u)) → all_wait s ps ≡ true → would_wait s u ≡ false → ClosesNothing s (with_event s (Drop u)) ps → all_wait (with_event s (Drop u)) ps ≡ true
after_drop s u ps legal signallers all out k =
    elim (cases_Bool (is_phase_open s ps)) [
      | inl was ↦ all_past_drop s u ps legal signallers all out (still_open (is_phase_open s ps) (is_phase_open (with_event s (Drop u)) ps) was k)
      | inr was ↦ all_past_closed_drop s u ps legal signallers all out was
    ]

-- a signal wakes no other signaller, unless it is a proposal on a bounded phaser
signal_keeps : (s : Story) (u : ℕ) (x : Option ℕ) → is_legal s.limits s.terms (Sig u x ∷ s.past) ≡ true → (is_some x && is_some s.terms.bound) ≡ false → KeepsSignallers s (with_event s (Sig u x))
signal_keeps s u None next k = keeps_signallers s (Sig u None) refl next
signal_keeps s u (Some n) next k = unbounded_keeps s (with_event s (Sig u (Some n))) k

-- a call that leaves all waiting where it is done
frees_nobody : {T : Type 0} (s s' : Story) (ps : List (Parked T)) (c : Call) → IsSettled s ps → s' ≡ after s (reply s c)
    → ((e : Event) → event_for s.limits s.terms s.past c ≡ e → is_legal s.limits s.terms (e ∷ s.past) ≡ true → s' ≡ with_event s e → all_wait (with_event s e) ps ≡ true)
    → all_wait s' ps ≡ true
frees_nobody s s' ps c k is next = go (reply s c) refl
  where
    go : (r : Reply) → reply s c ≡ r → all_wait s' ps ≡ true
    go (refused y) e = ap (λ (v : Story). all_wait v ps) (is ∙ ap (after s) e) ∙ k.waiting
    go not_yet e = ap (λ (v : Story). all_wait v ps) (is ∙ ap (after s) e) ∙ k.waiting
    go (done f) e =
        let now : s' ≡ with_event s f = is ∙ ap (after s) e in
        ap (λ (v : Story). all_wait v ps) now ∙ next f (event_is s c f e) (next_legal s c f k.legal e) now

-- a signal that closes nothing, and is no proposal on a bounded phaser
pub signal_frees_nobody : {T : Type 0} (s s' : Story) (ps : List (Parked T)) (u : ℕ) (x : Option ℕ) → IsSettled s ps → s' ≡ after s (reply s (signal u x)) → ((is_some x && is_some s.terms.bound) || (is_phase_open s ps && not (is_phase_open s' ps))) ≡ false → all_wait s' ps ≡ true
signal_frees_nobody s s' ps u x k is n =
    frees_nobody s s' ps (signal u x) k is
    (λ e same next now.
    subst (λ (f : Event). s' ≡ with_event s f → is_legal s.limits s.terms (f ∷ s.past) ≡ true → all_wait (with_event s f) ps ≡ true) same
    (λ is' legal. after_signal s u x ps k.legal legal (signal_keeps s u x legal parts.0) k.waiting (subst (λ (v : Story). ClosesNothing s v ps) is' parts.1))
    now next)
  where
    parts : ((is_some x && is_some s.terms.bound) ≡ false) × ((is_phase_open s ps && not (is_phase_open s' ps)) ≡ false)
    parts = or_parts (is_some x && is_some s.terms.bound) (is_phase_open s ps && not (is_phase_open s' ps)) n

-- a drop that closes nothing, of a task that doesn't wait to pass, on a phaser without a bound
pub drop_frees_nobody : {T : Type 0} (s s' : Story) (ps : List (Parked T)) (u : ℕ) → IsSettled s ps → s' ≡ after s (reply s (drop_task u)) → ((is_some s.terms.bound || would_wait s u) || (is_phase_open s ps && not (is_phase_open s' ps))) ≡ false → all_wait s' ps ≡ true
drop_frees_nobody s s' ps u k is n =
    frees_nobody s s' ps (drop_task u) k is
    (λ e same next now.
    subst (λ (f : Event). s' ≡ with_event s f → all_wait (with_event s f) ps ≡ true) same
    (λ is'. after_drop s u ps k.legal (unbounded_keeps s (with_event s (Drop u)) own.0) k.waiting own.1 (subst (λ (v : Story). ClosesNothing s v ps) is' parts.1))
    now)
  where
    parts : ((is_some s.terms.bound || would_wait s u) ≡ false) × ((is_phase_open s ps && not (is_phase_open s' ps)) ≡ false)
    parts = or_parts (is_some s.terms.bound || would_wait s u) (is_phase_open s ps && not (is_phase_open s' ps)) n

    own : (is_some s.terms.bound ≡ false) × (would_wait s u ≡ false)
    own = or_parts (is_some s.terms.bound) (would_wait s u) parts.0

-- a pass on a phaser without a bound
pass_unbounded : {T : Type 0} (s s' : Story) (ps : List (Parked T)) (u : ℕ) → IsSettled s ps → s' ≡ after s (reply s (pass u)) → is_some s.terms.bound ≡ false → all_wait s' ps ≡ true
pass_unbounded s s' ps u k is none =
    frees_nobody s s' ps (pass u) k is
    (λ e same next now.
    all_stay s (with_event s e) ps (keeps_passers s e (ap can_free (sym same) ∙ pass_frees_nobody s u) next) (unbounded_keeps s (with_event s e) none) k.waiting)

-- where the first who waits to signal still waits, a pass wakes no signaller
first_shows : {T : Type 0} (s : Story) (u : ℕ) (ps : List (Parked T)) → IsLegal s → is_legal s.limits s.terms (Pass u ∷ s.past) ≡ true → all_wait s ps ≡ true → is_first_held (with_event s (Pass u)) ps ≡ true → all_wait (with_event s (Pass u)) ps ≡ true
first_shows s u [] legal next all held = refl
first_shows s u (p ∷ ps) legal next all held = go p.call refl (first_shows s u ps legal next) all held
  where
    passers : KeepsPassers s (with_event s (Pass u))
    passers = keeps_passers s (Pass u) refl next

    go : (c : ParkedCall) → p.call ≡ c
        → (all_wait s ps ≡ true → is_first_held (with_event s (Pass u)) ps ≡ true → all_wait (with_event s (Pass u)) ps ≡ true)
        → (would_park s p.task c && all_wait s ps) ≡ true
        → is_held_for (with_event s (Pass u)) (cond (not (is_pass c)) (Some p) (first_to_signal ps)) ≡ true
        → (would_park (with_event s (Pass u)) p.task c && all_wait (with_event s (Pass u)) ps) ≡ true
    go ToPass e rest a k =
        let parts = and_parts (would_wait s p.task) (all_wait s ps) a in
        and_from (would_wait (with_event s (Pass u)) p.task) (all_wait (with_event s (Pass u)) ps) (passers p.task parts.0) (rest parts.1 k)
    go (ToSignal x) e rest a k =
        let parts = and_parts (signal_would_wait s p.task x) (all_wait s ps) a in
        let still : signal_would_wait (with_event s (Pass u)) p.task x ≡ true = sym (ap (λ c. would_park (with_event s (Pass u)) p.task c) e) ∙ k in
        and_from (signal_would_wait (with_event s (Pass u)) p.task x) (all_wait (with_event s (Pass u)) ps) still
        (all_stay s (with_event s (Pass u)) ps passers (λ q y w. held_past_pass s u p.task q x y legal next parts.0 still w) parts.1)

-- a pass after which the first who waits to signal still does
pass_held : {T : Type 0} (s s' : Story) (ps : List (Parked T)) (u : ℕ) → IsSettled s ps → s' ≡ after s (reply s (pass u)) → is_first_held s' ps ≡ true → all_wait s' ps ≡ true
pass_held s s' ps u k is held =
    frees_nobody s s' ps (pass u) k is
    (λ e same next now. go e (is_permitted s.limits s.terms s.past (Claim u)) same next (subst (λ (v : Story). is_first_held v ps ≡ true) now held))
  where
    go : (e : Event) (claims : Bool) → cond claims (Claim u) (Pass u) ≡ e → is_legal s.limits s.terms (e ∷ s.past) ≡ true → is_first_held (with_event s e) ps ≡ true → all_wait (with_event s e) ps ≡ true
    go e true same =
        subst (λ (f : Event). is_legal s.limits s.terms (f ∷ s.past) ≡ true → is_first_held (with_event s f) ps ≡ true → all_wait (with_event s f) ps ≡ true) same
        (λ next first. all_stay s (with_event s (Claim u)) ps (keeps_passers s (Claim u) refl next) (keeps_signallers s (Claim u) refl next) k.waiting)
    go e false same =
        subst (λ (f : Event). is_legal s.limits s.terms (f ∷ s.past) ≡ true → is_first_held (with_event s f) ps ≡ true → all_wait (with_event s f) ps ≡ true) same
        (λ next first. first_shows s u ps k.legal next k.waiting first)

-- a call that adds no event
unchanged : {T : Type 0} (s s' : Story) (ps : List (Parked T)) → IsSettled s ps → s' ≡ s → all_wait s' ps ≡ true
unchanged s s' ps k same = ap (λ (v : Story). all_wait v ps) same ∙ k.waiting

-- a pass that isn't over, or on a phaser without a bound, or after which the first who waits to signal still does
pub pass_frees_no_signaller : {T : Type 0} (s s' : Story) (ps : List (Parked T)) (u : ℕ) (over : Bool) → IsSettled s ps → s' ≡ after s (reply s (pass u)) → (over ≡ false → s' ≡ s) → (is_some s.terms.bound && over && not (is_first_held s' ps)) ≡ false → all_wait s' ps ≡ true
pass_frees_no_signaller s s' ps u over k is stays n =
    elim (none_of (is_some s.terms.bound) over (is_first_held s' ps) n) [
      | inl free ↦ pass_unbounded s s' ps u k is free
      | inr rest ↦ elim rest [
        | inl same ↦ unchanged s s' ps k (stays same)
        | inr held ↦ pass_held s s' ps u k is held
      ]
    ]
  where
    none_of : (x y z : Bool) → (x && y && not z) ≡ false → (x ≡ false) ⊎ ((y ≡ false) ⊎ (z ≡ true))
    none_of false y z m = inl refl
    none_of true false z m = inr (inl refl)
    none_of true true true m = inr (inr refl)
    none_of true true false m = absurd cc

-- a report that is refused
pub refused_frees_nobody : {T : Type 0} (s s' : Story) (ps : List (Parked T)) (u : ℕ) → IsSettled s ps → s' ≡ after s (reply s (single_done u)) → is_ok (done_result (reply s (single_done u))) ≡ false → all_wait s' ps ≡ true
refused_frees_nobody s s' ps u k is n = unchanged s s' ps k (is ∙ leaves s (reply s (single_done u)) n)
