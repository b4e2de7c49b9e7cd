-- What a call leaves of the facts that are kept behind a lock: one step for all calls.
use Rattle.std.proofs.Common.{◌≡◌, ℕ, Bool, true, false, List, [], ◌∷◌, Result, Ok, Err, cond, refl, ap, sym, ◌∙◌, subst}
use Rattle.std.specs.Prelude.{OnErr}
use Rattle.std.specs.Result.{is_ok}
use Rattle.std.proofs.lemmas.Bool.{and_from, false≢true}
use Rattle.phase_modes.specs.Limits.{is_between}
use Rattle.phase_modes.specs.declared.refusal.Refusal.{Refusal}
use Rattle.phase_modes.specs.Refusal.{first_refusal}
use Rattle.phase_model.specs.declared.history.Event.{Event}
use Rattle.phase_model.specs.declared.history.Event.TheVariants.{Claim, Pass}
use Rattle.phase_model.specs.Laws.{IsLegal}
use Rattle.phase_model.specs.Rules.{Story, with_event, is_permitted, is_legal, is_allowed, has_room}
use Rattle.phase_model.specs.declared.call.Call.{Call}
use Rattle.phase_model.specs.declared.call.Call.TheVariants.{Pass as pass}
use Rattle.phase_model.specs.Conditions.{conditions}
use Rattle.phase_model.specs.Replies.{Reply, refused, not_yet, done, reply, after, done_result, must_wait, event_for}
use Rattle.phase_model.specs.Waiting.{can_free, can_free_signal}
use Rattle.phase_model.proofs.OrderingLaw.{legal_is_ordered}
use Rattle.phase_model.proofs.Replied.{settled_done, done_is_allowed, legal_after}
use Rattle.phase_model.specs.Answers.{signal_result, pass_result}
use Rattle.phaser_core.specs.declared.parked.Parked.{Parked}
use Rattle.phaser_core.specs.Firsts.{is_made, has_gone_on}
use Rattle.phaser_core.specs.Parking.{all_wait, are_parked_once, freed}
use Rattle.phaser_core.specs.Settled.{IsSettled}
use Rattle.phaser_core.proofs.Parks.{all_stay, keeps_passers, keeps_signallers, none_freed}

-- the reply of a done call shows its event
pub event_is : (s : Story) (c : Call) (e : Event) → reply s c ≡ done e → event_for s.limits s.terms s.past c ≡ e
event_is s c e k =
    let f = event_for s.limits s.terms s.past c in
    (settled_done (first_refusal (conditions s.limits s.terms s.past c)) (must_wait s.limits s.terms s.past c) (has_room s.limits (f ∷ s.past)) f e k).1

limits_stay : (s : Story) (r : Reply) → (after s r).limits ≡ s.limits
limits_stay s (refused x) = refl
limits_stay s not_yet = refl
limits_stay s (done e) = refl

-- a phaser that nobody has made, where nobody is parked
pub fresh_is_settled : {T : Type 0} (s : Story) (ps : List (Parked T)) → is_between 1 s.limits.regs 256 ≡ true → s.past ≡ [] → ps ≡ [] → IsSettled s ps
fresh_is_settled s ps regs none empty =
    let legal : IsLegal s = ap (λ (h : List Event). is_legal s.limits s.terms h) none in
    record {
      regs = regs;
      legal = legal;
      ordered = legal_is_ordered s.limits s.terms s.past legal;
      waiting = ap (λ (l : List (Parked _)). all_wait s l) empty;
      once = ap (λ (l : List (Parked _)). are_parked_once l) empty;
    }

-- the step of all calls: what is kept, is kept after it
pub settled : {T : Type 0} (s s' : Story) (ps ps' : List (Parked T)) (c : Call)
    → IsSettled s ps → s' ≡ after s (reply s c) → all_wait s' ps' ≡ true → are_parked_once ps' ≡ true → IsSettled s' ps'
settled s s' ps ps' c k is waiting once =
    let legal : IsLegal s' = subst (λ (v : Story). IsLegal v) (sym is) (legal_after s c k.legal) in
    record {
      regs = ap (λ (v : Story). is_between 1 v.limits.regs 256) is ∙ (ap (λ l. is_between 1 l.regs 256) (limits_stay s (reply s c)) ∙ k.regs);
      legal = legal;
      ordered = legal_is_ordered s'.limits s'.terms s'.past legal;
      waiting = waiting;
      once = once;
    }

-- a call that can free nobody leaves all waiting
pub all_stay_after : {T : Type 0} (s : Story) (c : Call) (ps : List (Parked T)) → can_free (event_for s.limits s.terms s.past c) ≡ false → can_free_signal (event_for s.limits s.terms s.past c) ≡ false → IsLegal s → all_wait s ps ≡ true → all_wait (after s (reply s c)) ps ≡ true
all_stay_after s c ps still quiet legal w = go (reply s c) refl
  where
    go : (r : Reply) → reply s c ≡ r → all_wait (after s (reply s c)) ps ≡ true
    go (refused x) e = ap (λ r. all_wait (after s r) ps) e ∙ w
    go not_yet e = ap (λ r. all_wait (after s r) ps) e ∙ w
    go (done f) e =
        let next : is_legal s.limits s.terms (f ∷ s.past) ≡ true = and_from (is_allowed s.limits s.terms s.past f) (is_legal s.limits s.terms s.past) (done_is_allowed s c f e) legal in
        let same = sym (event_is s c f e) in
        ap (λ r. all_wait (after s r) ps) e ∙ all_stay s (with_event s f) ps (keeps_passers s f (ap can_free same ∙ still) next) (keeps_signallers s f (ap can_free_signal same ∙ quiet) next) w

-- the same after it, by another name
pub stays_waiting : {T : Type 0} (s s' : Story) (ps : List (Parked T)) (c : Call) → IsSettled s ps → s' ≡ after s (reply s c) → can_free (event_for s.limits s.terms s.past c) ≡ false → can_free_signal (event_for s.limits s.terms s.past c) ≡ false → all_wait s' ps ≡ true
stays_waiting s s' ps c k is still quiet = ap (λ (v : Story). all_wait v ps) is ∙ all_stay_after s c ps still quiet k.legal k.waiting

-- so such a call keeps all
pub settled_quiet : {T : Type 0} (s s' : Story) (ps : List (Parked T)) (c : Call) → IsSettled s ps → s' ≡ after s (reply s c) → can_free (event_for s.limits s.terms s.past c) ≡ false → can_free_signal (event_for s.limits s.terms s.past c) ≡ false → IsSettled s' ps
settled_quiet s s' ps c k is still quiet = settled s s' ps ps c k is (stays_waiting s s' ps c k is still quiet) k.once

-- neither the end of a turn nor a claim frees anybody who waits to pass
pub pass_frees_nobody : (s : Story) (t : ℕ) → can_free (event_for s.limits s.terms s.past (pass t)) ≡ false
pass_frees_nobody s t = elim (is_permitted s.limits s.terms s.past (Claim t)) as (λ b. can_free (cond b (Claim t) (Pass t)) ≡ false) [ true ↦ refl | false ↦ refl ]

-- a call that is refused or has to wait changes nothing
pub leaves : (s : Story) (r : Reply) → is_ok (done_result r) ≡ false → after s r ≡ s
leaves s (refused y) m = refl
leaves s not_yet m = refl
leaves s (done f) m = absurd cc

-- so does a signal that isn't made
pub signal_leaves : (s : Story) (r : Reply) → is_made (signal_result r) ≡ false → after s r ≡ s
signal_leaves s (refused y) m = refl
signal_leaves s not_yet m = refl
signal_leaves s (done f) m = absurd cc

-- and a pass by which nobody has gone on
pub pass_leaves : (s : Story) (t : ℕ) → has_gone_on (pass_result s.past (reply s (pass t))) ≡ false → after s (reply s (pass t)) ≡ s
pass_leaves s t m = go (reply s (pass t)) refl m
  where
    by_event : (f : Event) (b : Bool) → cond b (Claim t) (Pass t) ≡ f → has_gone_on (pass_result s.past (done f)) ≡ true
    by_event f true i = ap (λ g. has_gone_on (pass_result s.past (done g))) (sym i)
    by_event f false i = ap (λ g. has_gone_on (pass_result s.past (done g))) (sym i)

    go : (r : Reply) → reply s (pass t) ≡ r → has_gone_on (pass_result s.past r) ≡ false → after s r ≡ s
    go (refused y) e n = refl
    go not_yet e n = refl
    go (done f) e n =
        absurd (false≢true (sym n ∙ by_event f (is_permitted s.limits s.terms s.past (Claim t)) (event_is s (pass t) f e)))

-- so it frees nobody
pub none_where_unchanged : {T : Type 0} (s s' : Story) (ps : List (Parked T)) (out : List T) → IsSettled s ps → s' ≡ s → out ≡ freed s' ps → out ≡ []
none_where_unchanged s s' ps out k same o = o ∙ (ap (λ (v : Story). freed v ps) same ∙ none_freed s ps k.waiting)

pub none_where_refused : {T : Type 0} (s s' : Story) (ps : List (Parked T)) (c : Call) (a : Result (Unit {0}) Refusal) (out : List T)
    → IsSettled s ps → s' ≡ after s (reply s c) → a ≡ done_result (reply s c) → out ≡ freed s' ps → OnErr a (out ≡ [])
none_where_refused s s' ps c (Ok u) out k is e o = tt
none_where_refused s s' ps c (Err x) out k is e o =
    none_where_unchanged s s' ps out k (is ∙ leaves s (reply s c) (sym (ap (λ r. is_ok r) e))) o
