-- What a call leaves, by what it is answered.
use Rattle.std.proofs.Common.{◌≡◌, ◌⊎◌, Bool, true, false, Option, Some, None, Ok, Err, ◌∷◌, refl, ap, inl, inr}
use Rattle.phase_modes.specs.declared.refusal.Refusal.{Refusal}
use Rattle.phase_modes.specs.Refusal.{first_refusal}
use Rattle.phase_model.specs.declared.history.Event.{Event}
use Rattle.phase_model.specs.declared.call.Call.{Call}
use Rattle.phase_model.specs.Conditions.{conditions}
use Rattle.phase_model.specs.Rules.{Story, with_event, has_room}
use Rattle.phase_model.specs.Replies.{Reply, refused, not_yet, done, decided, done_result, event_for, must_wait, reply, after}

decided_done : (o : Option Refusal) (w room : Bool) (e : Event) → done_result (decided o w room e) ≡ Ok tt
    → decided o w room e ≡ done e
decided_done (Some r) w room e k = absurd cc
decided_done None true room e k = absurd cc
decided_done None false true e k = refl
decided_done None false false e k = absurd cc

-- a call that is done adds its event
pub done_event : (s : Story) (c : Call) → done_result (reply s c) ≡ Ok tt → after s (reply s c) ≡ with_event s
    (event_for s.limits s.terms s.past c)
done_event s c k =
    let e = event_for s.limits s.terms s.past c in
    ap (after s) (decided_done (first_refusal (conditions s.limits s.terms s.past c))
    (must_wait s.limits s.terms s.past c) (has_room s.limits (e ∷ s.past)) e k)

-- a call that is refused adds nothing
pub refused_kept : (s : Story) (r : Reply) (why : Refusal) → done_result r ≡ Err why → after s r ≡ s
refused_kept s (refused r) why k = refl
refused_kept s not_yet why k = refl
refused_kept s (done e) why k = absurd cc

either_decided : (s : Story) (o : Option Refusal) (w room : Bool) (e : Event)
    → (after s (decided o w room e) ≡ s) ⊎ (after s (decided o w room e) ≡ with_event s e)
either_decided s (Some r) w room e = inl refl
either_decided s None true room e = inl refl
either_decided s None false true e = inr refl
either_decided s None false false e = inl refl

-- a call adds its event, or nothing
pub either_way : (s : Story) (c : Call) → (after s (reply s c) ≡ s)
    ⊎ (after s (reply s c) ≡ with_event s (event_for s.limits s.terms s.past c))
either_way s c =
    let e = event_for s.limits s.terms s.past c in
    either_decided s (first_refusal (conditions s.limits s.terms s.past c))
    (must_wait s.limits s.terms s.past c) (has_room s.limits (e ∷ s.past)) e

-- no call changes what the phaser was made with
pub same_terms : (s : Story) (r : Reply) → (after s r).terms ≡ s.terms
same_terms s (refused r) = refl
same_terms s not_yet = refl
same_terms s (done e) = refl

pub same_limits : (s : Story) (r : Reply) → (after s r).limits ≡ s.limits
same_limits s (refused r) = refl
same_limits s not_yet = refl
same_limits s (done e) = refl
