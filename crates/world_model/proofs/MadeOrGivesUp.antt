-- What makes a task able: its next event is made, or it may give up.
use Rattle.std.proofs.Common.{◌≡◌, ◌⊎◌, ℕ, Bool, true, false, ◌&&◌, ◌||◌, ◌==◌, cond, List, ◌∷◌, Option, Some, None, refl, sym, subst, ap, ◌∙◌, inl, inr}
use Rattle.std.specs.Prelude.{Err, slice_get, option_map}
use Rattle.std.specs.Option.{option_map_or}
use Rattle.std.proofs.lemmas.Bool.{or_left}
use Rattle.phase_modes.specs.declared.limits.Limits.{Limits}
use Rattle.phase_modes.specs.declared.refusal.Refusal.{Refusal}
use Rattle.phase_modes.specs.declared.refusal.Refusal.TheVariants.{NotNow}
use Rattle.phase_model.specs.declared.history.Event.{Event}
use Rattle.phase_model.specs.declared.history.Event.TheVariants.{Pass as Passed, Look as Looked}
use Rattle.phase_model.specs.Replies as phaser
use Rattle.phase_model.specs.Replies.{decided}
use Rattle.world_model.specs.declared.event.WorldEvent.{WorldEvent}
use Rattle.world_model.specs.declared.event.WorldEvent.TheVariants.{Fail}
use Rattle.world_model.specs.Tasks.{is_ended}
use Rattle.world_model.specs.Actors.{actor}
use Rattle.world_model.specs.Due.{due, next_event, or_single, is_idle}
use Rattle.world_model.specs.PartReplies.{returned}
use Rattle.world_model.specs.Replies.{is_made, is_accepted}
use Rattle.world_model.specs.GivingUp.{is_refused_by, is_reg, may_fail, done_where}
use Rattle.world_model.specs.Continuing.{next_done, next_reply, same_event}
use Rattle.world_model.specs.Able.{is_able}
use Rattle.world_model.proofs.AbleComputed.{able_is_computed}

-- a phaser's event is made, whatever it is
pub event_made : (h : List Event) (e : Event) → is_made (returned h (phaser.done e)) ≡ true
event_made h (Passed t) = refl
event_made h (Looked t a x) = refl
event_made h e = refl

-- a call without a cause that doesn't wait is done, or has no room
pub made_or_full : (h : List Event) (o : Option Refusal) (waiting room : Bool) (e : Event)
    → o ≡ None → waiting ≡ false
    → (is_made (returned h (decided o waiting room e)) ≡ true)
    ⊎ (is_refused_by 15 (returned h (decided o waiting room e)) ≡ true)
made_or_full h o waiting true e n v = inl (rw (n, v) (event_made h e))
made_or_full h o waiting false e n v = inr (rw (n, v) refl)

module _ (l : Limits) (w : List WorldEvent) (t : ℕ) (going : is_ended t w ≡ false) where
  pub able_by : (e : WorldEvent) → actor w e ≡ t → is_accepted l w e ≡ true → is_able l w t ≡ true
  able_by e m a = (able_is_computed l w t).1 (going, e, m, a)

  -- the event that is next is made
  pub part_accepted : (e : WorldEvent) → same_event e e ≡ true → actor w e ≡ t → next_event l t w ≡ Some e
      → is_made (next_done l w e) ≡ true → is_made (next_reply l w e) ≡ true
  part_accepted e s m n d =
      let next : next_event l (actor w e) w ≡ Some e = ap (λ v. next_event l v w) m ∙ n in
      subst (λ o. is_made (cond (option_map_or (λ c. same_event c e) o false) (next_done l w e) (Err NotNow))
      ≡ true) (sym next)
      (subst (λ b. is_made (cond b (next_done l w e) (Err NotNow)) ≡ true) (sym s) d)

  fails : (x : ℕ) → may_fail l w t x ≡ true → is_able l w t ≡ true
  fails x k = able_by (Fail t x) refl (subst (λ b. is_made (done_where b) ≡ true) (sym k) refl)

  -- it may give up where its next event is refused by 7 or 15,
  -- where a registration is next, and where it is idle
  pub fails_7 : (e : WorldEvent) → next_event l t w ≡ Some e → is_refused_by 7 (next_done l w e) ≡ true
      → is_able l w t ≡ true
  fails_7 e n r =
      fails 7 (or_left (((7 == 7) || (7 == 15)) && option_map_or (λ d. is_refused_by 7 (next_done l w d))
      (next_event l t w) false || ((7 == 14) && option_map_or is_reg (next_event l t w) false))
      ((7 == 23) && is_idle t w)
      (or_left (option_map_or (λ d. is_refused_by 7 (next_done l w d)) (next_event l t w) false) false
      (subst (λ o. option_map_or (λ d. is_refused_by 7 (next_done l w d)) o false ≡ true) (sym n) r)))

  pub fails_15 : (e : WorldEvent) → next_event l t w ≡ Some e → is_refused_by 15 (next_done l w e) ≡ true
      → is_able l w t ≡ true
  fails_15 e n r =
      fails 15 (or_left (((15 == 7) || (15 == 15)) && option_map_or (λ d. is_refused_by 15 (next_done l w d))
      (next_event l t w) false || ((15 == 14) && option_map_or is_reg (next_event l t w) false))
      ((15 == 23) && is_idle t w)
      (or_left (option_map_or (λ d. is_refused_by 15 (next_done l w d)) (next_event l t w) false) false
      (subst (λ o. option_map_or (λ d. is_refused_by 15 (next_done l w d)) o false ≡ true) (sym n) r)))

  pub fails_14 : (e : WorldEvent) → next_event l t w ≡ Some e → is_reg e ≡ true → is_able l w t ≡ true
  fails_14 e n r =
      fails 14 (or_left (((14 == 7) || (14 == 15)) && option_map_or (λ d. is_refused_by 14 (next_done l w d))
      (next_event l t w) false || ((14 == 14) && option_map_or is_reg (next_event l t w) false))
      ((14 == 23) && is_idle t w)
      (subst (λ o. option_map_or is_reg o false ≡ true) (sym n) r))

  pub fails_23 : is_idle t w ≡ true → is_able l w t ≡ true
  fails_23 i = fails 23 i

  pub next_is : (d : WorldEvent) (ds : List WorldEvent) → due t w ≡ d ∷ ds
      → next_event l t w ≡ Some (or_single l w d)
  next_is d ds here = ap (λ xs. option_map (or_single l w) (slice_get xs 0)) here
