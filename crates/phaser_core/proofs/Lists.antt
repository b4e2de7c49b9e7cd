-- What the laws on waiting mean for the list of those who wait.
use Rattle.std.proofs.Common.{◌≡◌, ℕ, ◌==◌, Bool, true, false, ◌&&◌, not, cond, List, [], ◌∷◌, Option, Some, refl, ap, sym, ◌∙◌}
use Rattle.std.proofs.lemmas.Bool.{ne_eqb, and_parts, and_from, false≢true}
use Rattle.phase_model.specs.declared.history.Event.{Event}
use Rattle.phase_model.specs.declared.history.Event.TheVariants.{Sig, Drop}
use Rattle.phase_model.specs.Tasks.{is_live}
use Rattle.phase_model.specs.Phases.{waits, is_closed}
use Rattle.phase_model.specs.Rules.{Story, with_event, is_legal}
use Rattle.phase_model.specs.Waiting.{would_wait, is_in_open_phase}
use Rattle.phase_model.proofs.Waiting.{held}
use Rattle.phase_model.proofs.OnePhase.{same_phase, waits_past_signal, waits_past_drop, closed_past_signal, closed_past_drop}
use Rattle.phaser_core.specs.declared.parked.Parked.{Parked}
use Rattle.phaser_core.specs.declared.parked.ParkedCall.{ParkedCall}
use Rattle.phaser_core.specs.declared.parked.ParkedCall.TheVariants.{Pass as ToPass, Signal as ToSignal}
use Rattle.phaser_core.specs.Parking.{would_park, all_wait}
use Rattle.phaser_core.specs.Firsts.{is_pass, first_to_pass, is_open_for, is_phase_open}
use Rattle.phaser_core.proofs.Parks.{KeepsPassers, KeepsSignallers, all_stay}

-- all wait on where no signaller goes on, and the first who waits to pass shows that no passer does
all_past : {T : Type 0} (s s' : Story) (ps : List (Parked T)) → KeepsSignallers s s' → all_wait s ps ≡ true
    → ((p : Parked T) → first_to_pass ps ≡ Some p → would_wait s p.task ≡ true → KeepsPassers s s') → all_wait s' ps ≡ true
all_past s s' [] signallers all shown = refl
all_past s s' (p ∷ ps) signallers all shown = go p.call (all_past s s' ps signallers) all shown
  where
    go : (c : ParkedCall)
        → (all_wait s ps ≡ true → ((q : Parked _) → first_to_pass ps ≡ Some q → would_wait s q.task ≡ true → KeepsPassers s s') → all_wait s' ps ≡ true)
        → (would_park s p.task c && all_wait s ps) ≡ true
        → ((q : Parked _) → cond (is_pass c) (Some p) (first_to_pass ps) ≡ Some q → would_wait s q.task ≡ true → KeepsPassers s s')
        → (would_park s' p.task c && all_wait s' ps) ≡ true
    go ToPass rest a k =
        let parts = and_parts (would_wait s p.task) (all_wait s ps) a in
        let passers = k p refl parts.0 in
        and_from (would_wait s' p.task) (all_wait s' ps) (passers p.task parts.0) (all_stay s s' ps passers signallers parts.1)
    go (ToSignal x) rest a k =
        let parts = and_parts (would_park s p.task (ToSignal x)) (all_wait s ps) a in
        and_from (would_park s' p.task (ToSignal x)) (all_wait s' ps) (signallers p.task x parts.0) (rest parts.1 k)

-- the test at the first who waits to pass
open_at : {T : Type 0} (s : Story) (o : Option (Parked T)) (p : Parked T) (b : Bool) → o ≡ Some p → is_open_for s o ≡ b → is_in_open_phase s p.task ≡ b
open_at s o p b e k = sym (ap (λ (q : Option (Parked _)). is_open_for s q) e) ∙ k

-- one of them shows whether the phase of all is open in another history
open_for_all : (s : Story) (h : List Event) (p q : ℕ) → is_legal s.limits s.terms s.past ≡ true → would_wait s p ≡ true → would_wait s q ≡ true → not (is_closed (waits p s.past) h) ≡ true → not (is_closed (waits q s.past) h) ≡ true
open_for_all s h p q legal a b still = ap (λ w. not (is_closed w h)) (same_phase s q p legal b a) ∙ still

closed_for_all : (s : Story) (p q : ℕ) → is_legal s.limits s.terms s.past ≡ true → would_wait s p ≡ true → would_wait s q ≡ true → is_closed (waits p s.past) s.past ≡ true → is_closed (waits q s.past) s.past ≡ true
closed_for_all s p q legal a b closed = ap (λ w. is_closed w s.past) (same_phase s q p legal b a) ∙ closed

-- a signal that leaves the phase of those who wait to pass open leaves all waiting
pub all_past_signal : {T : Type 0} (s : Story) (u : ℕ) (x : Option ℕ) (ps : List (Parked T)) → is_legal s.limits s.terms s.past ≡ true → is_legal s.limits s.terms (Sig u x ∷ s.past) ≡ true → KeepsSignallers s (with_event s (Sig u x)) → all_wait s ps ≡ true → is_phase_open (with_event s (Sig u x)) ps ≡ true
    → all_wait (with_event s (Sig u x)) ps ≡ true
all_past_signal s u x ps legal next signallers all still =
    all_past s (with_event s (Sig u x)) ps signallers all
    (λ p first wait q k.
    let t = p.task in
    let now = Sig u x ∷ s.past in
    let here : (is_live t now && not (is_closed (waits t now) now)) ≡ true = open_at (with_event s (Sig u x)) (first_to_pass ps) p true first still in
    waits_past_signal s u x q next k (open_for_all s now t q legal wait k (and_parts (is_live t now) (not (is_closed (waits t now) now)) here).1))

-- who waits is another than who doesn't
another : (s : Story) (u q : ℕ) → would_wait s u ≡ false → would_wait s q ≡ true → (u == q) ≡ false
another s u q out k = ne_eqb u q (λ e. false≢true (sym out ∙ (ap (λ v. would_wait s v) e ∙ k)))

-- so does the drop of a task that doesn't wait to pass
pub all_past_drop : {T : Type 0} (s : Story) (u : ℕ) (ps : List (Parked T)) → is_legal s.limits s.terms s.past ≡ true → KeepsSignallers s (with_event s (Drop u)) → all_wait s ps ≡ true → would_wait s u ≡ false → is_phase_open (with_event s (Drop u)) ps ≡ true
    → all_wait (with_event s (Drop u)) ps ≡ true
all_past_drop s u ps legal signallers all out still =
    all_past s (with_event s (Drop u)) ps signallers all
    (λ p first wait q k.
    let t = p.task in
    let now = Drop u ∷ s.past in
    let here : (is_live t now && not (is_closed (waits t now) now)) ≡ true = open_at (with_event s (Drop u)) (first_to_pass ps) p true first still in
    waits_past_drop s u q k (another s u q out k) (open_for_all s now t q legal wait k (and_parts (is_live t now) (not (is_closed (waits t now) now)) here).1))

-- a live task in no open phase stands in a closed one
closed_where : (live cl : Bool) → live ≡ true → (live && not cl) ≡ false → cl ≡ true
closed_where true true a k = refl
closed_where true false a k = absurd cc
closed_where false cl a k = absurd cc

-- the first who waits to pass stands in a closed phase
closed_at : {T : Type 0} (s : Story) (o : Option (Parked T)) (p : Parked T) → o ≡ Some p → would_wait s p.task ≡ true → is_open_for s o ≡ false → is_closed (waits p.task s.past) s.past ≡ true
closed_at s o p first wait was =
    closed_where (is_live p.task s.past) (is_closed (waits p.task s.past) s.past) (held s p.task wait).live (open_at s o p false first was)

-- where the phase was closed before, a signal leaves all waiting
pub all_past_closed_signal : {T : Type 0} (s : Story) (u : ℕ) (x : Option ℕ) (ps : List (Parked T)) → is_legal s.limits s.terms s.past ≡ true → is_legal s.limits s.terms (Sig u x ∷ s.past) ≡ true → KeepsSignallers s (with_event s (Sig u x)) → all_wait s ps ≡ true → is_phase_open s ps ≡ false
    → all_wait (with_event s (Sig u x)) ps ≡ true
all_past_closed_signal s u x ps legal next signallers all was =
    all_past s (with_event s (Sig u x)) ps signallers all
    (λ p first wait q k. closed_past_signal s u x q next k (closed_for_all s p.task q legal wait k (closed_at s (first_to_pass ps) p first wait was)))

-- so does the drop of a task that doesn't wait to pass
pub all_past_closed_drop : {T : Type 0} (s : Story) (u : ℕ) (ps : List (Parked T)) → is_legal s.limits s.terms s.past ≡ true → KeepsSignallers s (with_event s (Drop u)) → all_wait s ps ≡ true → would_wait s u ≡ false → is_phase_open s ps ≡ false
    → all_wait (with_event s (Drop u)) ps ≡ true
all_past_closed_drop s u ps legal signallers all out was =
    all_past s (with_event s (Drop u)) ps signallers all
    (λ p first wait q k. closed_past_drop s u q k (another s u q out k) (closed_for_all s p.task q legal wait k (closed_at s (first_to_pass ps) p first wait was)))
