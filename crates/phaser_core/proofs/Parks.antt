-- The list of parked tasks: each stands there once, all are live and wait, and so they are no more than may be registered.
use Rattle.std.proofs.Common.{◌≡◌, ℕ, suc, ◌+◌, ◌≤◌, ◌<◌, ◌==◌, nat_lt, nat_le, Bool, true, false, ◌||◌, ◌&&◌, not, cond, List, [], ◌∷◌, ◌++◌, Option, Some, None, is_some, length, filter, map, refl, ap, sym, ◌∙◌, arith}
use Rattle.std.specs.List.{list_all}
use Rattle.std.proofs.lemmas.Bool.{eq-eqb, ne_eqb, leb-true, and_parts, and_from, or_parts, or_from, not-true, false≢true}
use Rattle.phase_modes.specs.declared.limits.Limits.{Limits}
use Rattle.phase_modes.specs.declared.refusal.Refusal.{Refusal}
use Rattle.phase_modes.specs.Refusal.{first_refusal}
use Rattle.phase_modes.specs.Limits.{is_between}
use Rattle.phase_modes.specs.Lists.{is_empty}
use Rattle.phase_modes.specs.Mode.{can_signal, can_single}
use Rattle.phase_modes.proofs.FirstRefusal.{met_where_none}
use Rattle.phase_model.specs.declared.history.Event.{Event}
use Rattle.phase_model.specs.declared.history.Event.TheVariants.{Make, Reg, Sig, Drop}
use Rattle.phase_model.specs.declared.terms.Terms.{Terms}
use Rattle.phase_model.specs.declared.call.Call.TheVariants.{Signal as signal}
use Rattle.phase_model.specs.Conditions.{conditions, is_other_proposed}
use Rattle.phase_model.specs.Phases.{waits, signals, is_within_bound}
use Rattle.phase_model.specs.Replies.{decided}
use Rattle.phase_model.specs.Tasks.{is_live, has_mode, live_tasks, live_count}
use Rattle.phase_model.specs.Rules.{Story, with_event, is_legal, has_room}
use Rattle.phase_model.proofs.Legal.{last_follows, reg_follows}
use Rattle.phase_model.proofs.LiveTasks.{has, has-filter, has-live_tasks, empty_is, live_tasks-reg, live_tasks-drop}
use Rattle.phase_model.specs.Waiting.{is_not_yet, would_wait, signal_would_wait, can_free, can_free_signal}
use Rattle.phaser_core.specs.declared.parked.Parked.{Parked}
use Rattle.phaser_core.specs.declared.parked.ParkedCall.{ParkedCall}
use Rattle.phaser_core.specs.declared.parked.ParkedCall.TheVariants.{Pass as ToPass, Signal as ToSignal}
use Rattle.phaser_core.specs.Parking.{is_parked, are_parked_once, would_park, all_wait, waiting, freed}
use Rattle.phaser_core.proofs.Turns.{all_filter}
use Rattle.phase_model.proofs.Waiting.{stays, held}
use Rattle.phase_model.proofs.Bounded.{Waits, others_free_no_signaller}

-- who waits to pass in the one story waits in the other
abbrev pub KeepsPassers : Story → Story → Type 0
KeepsPassers s s' = (t : ℕ) → would_wait s t ≡ true → would_wait s' t ≡ true

-- and so who waits to signal
abbrev pub KeepsSignallers : Story → Story → Type 0
KeepsSignallers s s' = (t : ℕ) (x : Option ℕ) → signal_would_wait s t x ≡ true → signal_would_wait s' t x ≡ true

pub call_stays : (s s' : Story) → KeepsPassers s s' → KeepsSignallers s s' → (t : ℕ) (c : ParkedCall) → would_park s t c ≡ true → would_park s' t c ≡ true
call_stays s s' passers signallers t ToPass k = passers t k
call_stays s s' passers signallers t (ToSignal x) k = signallers t x k

-- then all who are parked wait on
pub all_stay : {T : Type 0} (s s' : Story) (ps : List (Parked T)) → KeepsPassers s s' → KeepsSignallers s s' → all_wait s ps ≡ true → all_wait s' ps ≡ true
all_stay s s' [] passers signallers w = refl
all_stay s s' (p ∷ ps) passers signallers w =
    let parts = and_parts (would_park s p.task p.call) (all_wait s ps) w in
    and_from (would_park s' p.task p.call) (all_wait s' ps) (call_stays s s' passers signallers p.task p.call parts.0) (all_stay s s' ps passers signallers parts.1)

-- an event that can wake no passer
pub keeps_passers : (s : Story) (e : Event) → can_free e ≡ false → is_legal s.limits s.terms (e ∷ s.past) ≡ true → KeepsPassers s (with_event s e)
keeps_passers s e k legal t w = stays s t w e k legal

-- an event that can wake no signaller
pub keeps_signallers : (s : Story) (e : Event) → can_free_signal e ≡ false → is_legal s.limits s.terms (e ∷ s.past) ≡ true → KeepsSignallers s (with_event s e)
keeps_signallers s e k legal t x w = others_free_no_signaller s e t x legal k w

settled_waits : (o : Option Refusal) (w b : Bool) (e : Event) → is_not_yet (decided o w b e) ≡ true → (o ≡ None) × (w ≡ true)
settled_waits (Some r) w b e k = absurd cc
settled_waits None true b e k = (refl, refl)
settled_waits None false true e k = absurd cc
settled_waits None false false e k = absurd cc

-- what a task that waits to signal meets: no refusal, and a waiter that is too far behind
pub waits_by : (s : Story) (t : ℕ) (x : Option ℕ) → signal_would_wait s t x ≡ true → Waits s.limits s.terms s.past t x
waits_by s t x k =
    let h = s.past in
    let cs = conditions s.limits s.terms h (signal t x) in
    let b = is_within_bound s.terms.bound (signals t h) h in
    let parts = settled_waits (first_refusal cs) (not b) (has_room s.limits (Sig t x ∷ h)) (Sig t x) k in
    let met = met_where_none cs parts.0 in
    let a1 = is_live t h in
    let a2 = has_mode can_signal t h in
    let a3 = not (is_some x && not (has_mode can_single t h)) in
    let a4 = signals t h == waits t h in
    let a5 = not (is_other_proposed x (signals t h) h) in
    let k4 = and_parts (a1 && a2 && a3 && a4) a5 met in
    let k3 = and_parts (a1 && a2 && a3) a4 k4.0 in
    let k2 = and_parts (a1 && a2) a3 k3.0 in
    let k1 = and_parts a1 a2 k2.0 in
    record { live = k1.0; signaller = k1.1; may_propose = k2.1; level = k3.1; agrees = k4.1; beyond = not-true b parts.1 }

-- so without a bound nobody waits to signal
pub unbounded_keeps : (s s' : Story) → is_some s.terms.bound ≡ false → KeepsSignallers s s'
unbounded_keeps s s' none t x k = absurd (false≢true (sym (waits_by s t x k).beyond ∙ free s.terms.bound none))
  where
    free : (o : Option ℕ) → is_some o ≡ false → is_within_bound o (signals t s.past) s.past ≡ true
    free None e = refl
    free (Some b) e = absurd cc

-- where all wait, all are kept and none is freed
pub all_kept : {T : Type 0} (s : Story) (ps : List (Parked T)) → all_wait s ps ≡ true → waiting s ps ≡ ps
all_kept s [] w = refl
all_kept s (p ∷ ps) w =
    let parts = and_parts (would_park s p.task p.call) (all_wait s ps) w in
    ap (λ b. cond b (p ∷ waiting s ps) (waiting s ps)) parts.0 ∙ ap (λ l. p ∷ l) (all_kept s ps parts.1)

pub none_freed : {T : Type 0} (s : Story) (ps : List (Parked T)) → all_wait s ps ≡ true → freed s ps ≡ []
none_freed s [] w = refl
none_freed s (p ∷ ps) w =
    let parts = and_parts (would_park s p.task p.call) (all_wait s ps) w in
    ap (λ b. map (λ q. q.item) (cond (not b) (p ∷ filter (λ q. not (would_park s q.task q.call)) ps) (filter (λ q. not (would_park s q.task q.call)) ps))) parts.0 ∙ none_freed s ps parts.1

-- no task is parked twice
abbrev ParkedOnce : {T : Type 0} → List (Parked T) → Type 0
ParkedOnce [] = Unit {0}
ParkedOnce (p ∷ ps) = (is_parked p.task ps ≡ false) × ParkedOnce ps

once_of : {T : Type 0} (ps : List (Parked T)) → are_parked_once ps ≡ true → ParkedOnce ps
once_of [] k = tt
once_of (p ∷ ps) k =
    let parts = and_parts (not (is_parked p.task ps)) (are_parked_once ps) k in
    (not-true (is_parked p.task ps) parts.0, once_of ps parts.1)

once_to : {T : Type 0} (ps : List (Parked T)) → ParkedOnce ps → are_parked_once ps ≡ true
once_to [] k = refl
once_to (p ∷ ps) k = and_from (not (is_parked p.task ps)) (are_parked_once ps) (ap (λ b. not b) k.0) (once_to ps k.1)

not_parked_filter : {T : Type 0} (w : Parked T → Bool) (t : ℕ) (ps : List (Parked T)) → is_parked t ps ≡ false → is_parked t (filter w ps) ≡ false
not_parked_filter w t [] k = refl
not_parked_filter w t (p ∷ ps) k =
    let parts = or_parts (p.task == t) (is_parked t ps) k in
    let rest : is_parked t (filter w ps) ≡ false = not_parked_filter w t ps parts.1 in
    elim (w p) as (λ b. is_parked t (cond b (p ∷ filter w ps) (filter w ps)) ≡ false) [ true ↦ or_from (p.task == t) (is_parked t (filter w ps)) parts.0 rest | false ↦ rest ]

once_filter : {T : Type 0} (w : Parked T → Bool) (ps : List (Parked T)) → ParkedOnce ps → ParkedOnce (filter w ps)
once_filter w [] a = tt
once_filter w (p ∷ ps) a =
    let rest : ParkedOnce (filter w ps) = once_filter w ps a.1 in
    let lone : is_parked p.task (filter w ps) ≡ false = not_parked_filter w p.task ps a.0 in
    elim (w p) as (λ b. ParkedOnce (cond b (p ∷ filter w ps) (filter w ps))) [ true ↦ (lone, rest) | false ↦ rest ]

pub once_waiting : {T : Type 0} (s : Story) (ps qs : List (Parked T)) → are_parked_once ps ≡ true → qs ≡ waiting s ps → are_parked_once qs ≡ true
once_waiting s ps qs a e = ap (λ (l : List (Parked _)). are_parked_once l) e ∙ once_to (waiting s ps) (once_filter (λ p. would_park s p.task p.call) ps (once_of ps a))

-- those who are kept all wait
pub all_waiting : {T : Type 0} (s : Story) (ps qs : List (Parked T)) → qs ≡ waiting s ps → all_wait s qs ≡ true
all_waiting s ps qs e = ap (λ (l : List (Parked _)). all_wait s l) e ∙ all_filter (λ p. would_park s p.task p.call) ps

not_parked_push : {T : Type 0} (t : ℕ) (ps : List (Parked T)) (p : Parked T) → is_parked t ps ≡ false → (p.task == t) ≡ false → is_parked t (ps ++ p ∷ []) ≡ false
not_parked_push t [] p k n = or_from (p.task == t) false n refl
not_parked_push t (q ∷ qs) p k n =
    let parts = or_parts (q.task == t) (is_parked t qs) k in
    or_from (q.task == t) (is_parked t (qs ++ p ∷ [])) parts.0 (not_parked_push t qs p parts.1 n)

pushed_once : {T : Type 0} (ps : List (Parked T)) (p : Parked T) → ParkedOnce ps → is_parked p.task ps ≡ false → ParkedOnce (ps ++ p ∷ [])
pushed_once [] p a k = (refl, tt)
pushed_once (q ∷ qs) p a k =
    let parts = or_parts (q.task == p.task) (is_parked p.task qs) k in
    let other : (p.task == q.task) ≡ false = ne_eqb p.task q.task (λ e. false≢true (sym parts.0 ∙ eq-eqb q.task p.task (sym e))) in
    (not_parked_push q.task qs p a.0 other, pushed_once qs p a.1 parts.1)

pub once_push : {T : Type 0} (ps : List (Parked T)) (p : Parked T) → are_parked_once ps ≡ true → is_parked p.task ps ≡ false → are_parked_once (ps ++ p ∷ []) ≡ true
once_push ps p a k = once_to (ps ++ p ∷ []) (pushed_once ps p (once_of ps a) k)

pub all_push : {T : Type 0} (s : Story) (ps : List (Parked T)) (p : Parked T) → all_wait s ps ≡ true → would_park s p.task p.call ≡ true → all_wait s (ps ++ p ∷ []) ≡ true
all_push s [] p a k = and_from (would_park s p.task p.call) true k refl
all_push s (q ∷ qs) p a k =
    let parts = and_parts (would_park s q.task q.call) (all_wait s qs) a in
    and_from (would_park s q.task q.call) (all_wait s (qs ++ p ∷ [])) parts.0 (all_push s qs p parts.1 k)

-- a list without one of its numbers
abbrev without : ℕ → List ℕ → List ℕ
without x ts = filter (λ u. not (u == x)) ts

filter_no_longer : (p : ℕ → Bool) (ts : List ℕ) → length (filter p ts) ≤ length ts
filter_no_longer p [] = omega arith
filter_no_longer p (t ∷ ts) =
    let rest = filter_no_longer p ts in
    elim (p t) as (λ b. length (cond b (t ∷ filter p ts) (filter p ts)) ≤ suc (length ts)) [ true ↦ omega (arith, rest) | false ↦ omega (arith, rest) ]

shorter : (x : ℕ) (ts : List ℕ) → has x ts ≡ true → length (without x ts) + 1 ≤ length ts
shorter x [] k = absurd cc
shorter x (t ∷ ts) k = go (t == x) k (λ e. shorter x ts e)
  where
    go : (b : Bool) → (b || has x ts) ≡ true → (has x ts ≡ true → length (without x ts) + 1 ≤ length ts) → length (cond (not b) (t ∷ without x ts) (without x ts)) + 1 ≤ suc (length ts)
    go true e rest = omega (arith, filter_no_longer (λ u. not (u == x)) ts)
    go false e rest = omega (arith, rest e)

abbrev all_in : {T : Type 0} → List ℕ → List (Parked T) → Bool
all_in ts ps = list_all (λ p. has p.task ts) ps

all_without : {T : Type 0} (x : ℕ) (ts : List ℕ) (ps : List (Parked T)) → is_parked x ps ≡ false → all_in ts ps ≡ true → all_in (without x ts) ps ≡ true
all_without x ts [] k a = refl
all_without x ts (p ∷ ps) k a =
    let n = or_parts (p.task == x) (is_parked x ps) k in
    let m = and_parts (has p.task ts) (all_in ts ps) a in
    and_from (has p.task (without x ts)) (all_in (without x ts) ps)
    (has-filter (λ u. not (u == x)) p.task ts ∙ and_from (not (p.task == x)) (has p.task ts) (ap (λ b. not b) n.0) m.0)
    (all_without x ts ps n.1 m.1)

no_more : {T : Type 0} (ts : List ℕ) (ps : List (Parked T)) → ParkedOnce ps → all_in ts ps ≡ true → length ps ≤ length ts
no_more ts [] once a = omega arith
no_more ts (p ∷ ps) once a =
    let m = and_parts (has p.task ts) (all_in ts ps) a in
    omega (arith, shorter p.task ts m.0, no_more (without p.task ts) ps once.1 (all_without p.task ts ps once.0 m.1))

-- who is parked is registered
pub parked_live : (s : Story) (t : ℕ) (c : ParkedCall) → would_park s t c ≡ true → is_live t s.past ≡ true
parked_live s t ToPass k = (held s t k).live
parked_live s t (ToSignal x) k = (waits_by s t x k).live

all_live : {T : Type 0} (s : Story) (ps : List (Parked T)) → all_wait s ps ≡ true → all_in (live_tasks s.past) ps ≡ true
all_live s [] w = refl
all_live s (p ∷ ps) w =
    let parts = and_parts (would_park s p.task p.call) (all_wait s ps) w in
    and_from (has p.task (live_tasks s.past)) (all_in (live_tasks s.past) ps) (has-live_tasks p.task s.past ∙ parked_live s p.task p.call parts.0) (all_live s ps parts.1)

-- no more tasks are live than may be registered
few_live : (l : Limits) (terms : Terms) (h : List Event) → 1 ≤ l.regs → is_legal l terms h ≡ true → live_count h ≤ l.regs
few_live l terms [] one k = omega arith
few_live l terms (Make t m ∷ h) one k =
    let f = last_follows l terms h (Make t m) k in
    let empty : h ≡ [] = empty_is h (and_parts (is_empty h) (nat_lt t l.tasks) f.permitted).0 in
    omega (arith, one, ap (λ (g : List Event). live_count (Make t m ∷ g)) empty, filter_no_longer (λ u. is_live u (Make t m ∷ [])) (t ∷ []))
few_live l terms (Reg q t m ∷ h) one k =
    let f = last_follows l terms h (Reg q t m) k in
    let r = reg_follows l terms h q t m f.permitted in
    omega (arith, r.regs_fit, ap (λ (ts : List ℕ). length ts) (live_tasks-reg l terms h q t m f.before r.unknown))
few_live l terms (Drop t ∷ h) one k =
    omega (arith, few_live l terms h one (last_follows l terms h (Drop t) k).before, ap (λ (ts : List ℕ). length ts) (live_tasks-drop h t), filter_no_longer (λ u. not (t == u)) (live_tasks h))
few_live l terms (e ∷ h) one k = few_live l terms h one (last_follows l terms h e k).before

-- a phaser has at most 256 registrations at once
regs_fit : (l : Limits) → is_between 1 l.regs 256 ≡ true → (1 ≤ l.regs) × (l.regs ≤ 256)
regs_fit l k =
    let r = and_parts (nat_le 1 l.regs) (nat_le l.regs 256) k in
    (leb-true 1 l.regs r.0, leb-true l.regs 256 r.1)

-- so there is a place for each waiting task, and one more for a task that isn't parked yet
pub places : {T : Type 0} (s : Story) (ps : List (Parked T)) → is_between 1 s.limits.regs 256 ≡ true → is_legal s.limits s.terms s.past ≡ true → all_wait s ps ≡ true → are_parked_once ps ≡ true → length ps ≤ 256
places s ps fit legal w once =
    let r = regs_fit s.limits fit in
    omega (arith, r.1, few_live s.limits s.terms s.past r.0 legal, no_more (live_tasks s.past) ps (once_of ps once) (all_live s ps w))

-- there is one for a live task that isn't parked yet
pub place_for_live : {T : Type 0} (s : Story) (ps : List (Parked T)) (p : Parked T)
    → is_between 1 s.limits.regs 256 ≡ true → is_legal s.limits s.terms s.past ≡ true → all_wait s ps ≡ true
    → are_parked_once ps ≡ true → is_live p.task s.past ≡ true → is_parked p.task ps ≡ false → length ps < 256
place_for_live s ps p fit legal w once live n =
    let r = regs_fit s.limits fit in
    let all =
    and_from (has p.task (live_tasks s.past)) (all_in (live_tasks s.past) ps)
    (has-live_tasks p.task s.past ∙ live) (all_live s ps w) in
    omega (arith, r.1, few_live s.limits s.terms s.past r.0 legal, no_more (live_tasks s.past) (p ∷ ps) (n, once_of ps once) all)

pub one_place_more : {T : Type 0} (s : Story) (ps : List (Parked T)) (p : Parked T) → is_between 1 s.limits.regs 256 ≡ true → is_legal s.limits s.terms s.past ≡ true → all_wait s ps ≡ true → are_parked_once ps ≡ true → would_park s p.task p.call ≡ true → is_parked p.task ps ≡ false → length ps < 256
one_place_more s ps p fit legal w once k n =
    omega (arith, places s (p ∷ ps) fit legal (and_from (would_park s p.task p.call) (all_wait s ps) k w) (and_from (not (is_parked p.task ps)) (are_parked_once ps) (ap (λ b. not b) n) once))
