-- In a legal story a call is done exactly where the event that it would add is allowed.
use Rattle.std.proofs.Common.{◌≡◌, ℕ, Bool, true, false, ◌||◌, ◌&&◌, not, cond, ◌∷◌, None, refl, ap, sym, ◌∙◌, inl, inr}
use Rattle.std.proofs.lemmas.Bool.{and_parts, cases_Bool}
use Rattle.phase_modes.specs.Mode.{can_wait}
use Rattle.phase_modes.specs.Refusal.{are_met}
use Rattle.phase_model.specs.declared.history.Event.TheVariants.{Claim, Pass}
use Rattle.phase_model.specs.Tasks.{has_mode}
use Rattle.phase_model.specs.Phases.{waits, is_closed, signals, is_within_bound}
use Rattle.phase_model.specs.Singles.{is_settled}
use Rattle.phase_model.specs.declared.call.Call.{Call}
use Rattle.phase_model.specs.declared.call.Call.TheVariants.{Make as make, Register as register, Signal as signal, Pass as pass, SingleDone as single_done, Send as send, Look as look, Drop as drop_task}
use Rattle.phase_model.specs.Conditions.{conditions}
use Rattle.phase_model.specs.Rules.{Story, is_permitted, is_allowed, is_legal, has_room, same_look, look_of}
use Rattle.phase_model.specs.Laws.{DoneWhereAllowed}
use Rattle.phase_model.specs.Replies.{done, event_for, must_wait, decided, reply}
use Rattle.phase_modes.proofs.FirstRefusal.{none_where_met}
use Rattle.phase_model.proofs.Replied.{reply_by, done_is_allowed}
use Rattle.phase_model.proofs.SingleReplies.{pass_claims}

-- who may pass need not wait
goes_on : (w p c : Bool) → p ≡ true → (w && not p && not c) ≡ false
goes_on true true c k = refl
goes_on true false c k = absurd cc
goes_on false p c k = refl

module _ (s : Story) where
  -- an event that is allowed is permitted, and has room
  parts_of : (c : Call) → is_allowed s.limits s.terms s.past (event_for s.limits s.terms s.past c) ≡ true
      → (is_permitted s.limits s.terms s.past (event_for s.limits s.terms s.past c) ≡ true)
      × (has_room s.limits (event_for s.limits s.terms s.past c ∷ s.past) ≡ true)
  parts_of c k =
      let e = event_for s.limits s.terms s.past c in
      and_parts (is_permitted s.limits s.terms s.past e) (has_room s.limits (e ∷ s.past)) k

  -- a call that never waits, and whose conditions are met
  plainly : (c : Call) → are_met (conditions s.limits s.terms s.past c) ≡ true
      → must_wait s.limits s.terms s.past c ≡ false
      → has_room s.limits (event_for s.limits s.terms s.past c ∷ s.past) ≡ true
      → reply s c ≡ done (event_for s.limits s.terms s.past c)
  plainly c met free room =
      let e = event_for s.limits s.terms s.past c in
      reply_by s c None false e (none_where_met (conditions s.limits s.terms s.past c) met) free refl
      ∙ ap (λ b. decided None false b e) room

  -- a pass that claims nothing
  passes : (t : ℕ) → is_permitted s.limits s.terms s.past (Claim t) ≡ false
      → is_allowed s.limits s.terms s.past (Pass t) ≡ true → reply s (pass t) ≡ done (Pass t)
  passes t no_claim k =
      let h = s.past in
      let parts = and_parts (is_permitted s.limits s.terms h (Pass t)) (has_room s.limits (Pass t ∷ h)) k in
      let event : event_for s.limits s.terms h (pass t) ≡ Pass t =
      ap (λ b. cond b (Claim t) (Pass t)) no_claim in
      let met =
      (and_parts (are_met (conditions s.limits s.terms h (pass t)))
      (not (has_mode can_wait t h) || (is_closed (waits t h) h && is_settled (waits t h) h)) parts.0).0
      in
      reply_by s (pass t) None false (Pass t) (none_where_met (conditions s.limits s.terms h (pass t)) met)
      (goes_on (has_mode can_wait t h) (is_permitted s.limits s.terms h (Pass t))
      (is_permitted s.limits s.terms h (Claim t)) parts.0) event
      ∙ ap (λ b. decided None false b (Pass t)) parts.1

  allowed_is_done : (c : Call) → is_legal s.limits s.terms s.past ≡ true
      → is_allowed s.limits s.terms s.past (event_for s.limits s.terms s.past c) ≡ true
      → reply s c ≡ done (event_for s.limits s.terms s.past c)
  allowed_is_done (make t m) l k = plainly (make t m) (parts_of (make t m) k).0 refl (parts_of (make t m) k).1
  allowed_is_done (register q t m) l k =
      plainly (register q t m) (parts_of (register q t m) k).0 refl (parts_of (register q t m) k).1
  allowed_is_done (signal t x) l k =
      let parts = parts_of (signal t x) k in
      let near = is_within_bound s.terms.bound (signals t s.past) s.past in
      let both = and_parts (are_met (conditions s.limits s.terms s.past (signal t x))) near parts.0 in
      plainly (signal t x) both.0 (ap (λ b. not b) both.1) parts.1
  allowed_is_done (pass t) l k =
      elim (cases_Bool (is_permitted s.limits s.terms s.past (Claim t))) [
        | inl e ↦ pass_claims s t l e ∙ ap (λ b. done (cond b (Claim t) (Pass t))) (sym e)
        | inr e ↦
            passes t e (ap (λ b. is_allowed s.limits s.terms s.past (cond b (Claim t) (Pass t))) (sym e) ∙ k)
            ∙ ap (λ b. done (cond b (Claim t) (Pass t))) (sym e)
      ]
  allowed_is_done (single_done t) l k =
      plainly (single_done t) (parts_of (single_done t) k).0 refl (parts_of (single_done t) k).1
  allowed_is_done (send t a v) l k =
      plainly (send t a v) (parts_of (send t a v) k).0 refl (parts_of (send t a v) k).1
  allowed_is_done (look t a) l k =
      let x = look_of s.terms.ops a (waits t s.past) s.past in
      let parts = parts_of (look t a) k in
      plainly (look t a) (and_parts (are_met (conditions s.limits s.terms s.past (look t a)))
      (same_look x x) parts.0).0 refl parts.1
  allowed_is_done (drop_task t) l k =
      plainly (drop_task t) (parts_of (drop_task t) k).0 refl (parts_of (drop_task t) k).1

pub done_where_allowed : DoneWhereAllowed
done_where_allowed s c k = (done_is_allowed s c (event_for s.limits s.terms s.past c), allowed_is_done s c k)
