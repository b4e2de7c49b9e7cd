-- A task whose next event has to wait isn't able.
use Rattle.std.proofs.Common.{◌≡◌, ℕ, Bool, true, false, ◌==◌, ◌&&◌, not, if◌then◌else◌, List, Result, Err, refl, sym, subst}
use Rattle.std.specs.List.{list_any}
use Rattle.std.specs.Prelude.{option_to_list}
use Rattle.std.specs.Option.{option_map_or}
use Rattle.std.proofs.lemmas.Bool.{and_right, or_from}
use Rattle.phase_modes.specs.declared.limits.Limits.{Limits}
use Rattle.phase_modes.specs.declared.refusal.Refusal.{Refusal}
use Rattle.phase_modes.specs.declared.refusal.Refusal.TheVariants.{NotNow}
use Rattle.world_model.specs.declared.reply.Reply.{Reply}
use Rattle.world_model.specs.declared.event.WorldEvent.{WorldEvent}
use Rattle.world_model.specs.declared.event.WorldEvent.TheVariants.{Fail}
use Rattle.world_model.specs.Able.{is_able, candidates}
use Rattle.world_model.specs.Actors.{actor}
use Rattle.world_model.specs.Due.{next_event}
use Rattle.world_model.specs.GivingUp.{is_reg, is_refused_by, may_fail, done_where}
use Rattle.world_model.specs.Continuing.{next_done, same_event}
use Rattle.world_model.specs.Replies.{is_made, is_accepted}
use Rattle.world_model.specs.Tasks.{is_ended}
use Rattle.live_world.specs.Waits.{Waits, WaitersAreNotAble}

not_made : (b : Bool) (r : Result Reply Refusal) → is_made r ≡ false → is_made (if b then r else Err NotNow) ≡ false
not_made true r k = k
not_made false r k = refl

not_done : (b : Bool) → b ≡ false → is_made (done_where b) ≡ false
not_done b k = subst (λ x. is_made (done_where x) ≡ false) (sym k) refl

module _ (l : Limits) (w : List WorldEvent) (t : ℕ) (c : Waits l w t) where
  refused_not : (n : ℕ) → option_map_or (λ e. is_refused_by n (next_done l w e)) (next_event l t w) false ≡ false
  refused_not n =
      subst (λ o. option_map_or (λ e. is_refused_by n (next_done l w e)) o false ≡ false) (sym c.next)
      (subst (λ r. is_refused_by n r ≡ false) (sym c.answered) refl)

  no_reg : option_map_or is_reg (next_event l t w) false ≡ false
  no_reg = subst (λ o. option_map_or is_reg o false ≡ false) (sym c.next) c.no_reg

  fails_7 : may_fail l w t 7 ≡ false
  fails_7 = rw (refused_not 7) refl

  fails_15 : may_fail l w t 15 ≡ false
  fails_15 = rw (refused_not 15) refl

  fails_14 : may_fail l w t 14 ≡ false
  fails_14 = rw no_reg refl

  fails_23 : may_fail l w t 23 ≡ false
  fails_23 = rw c.busy refl

  next_not : is_accepted l w c.event ≡ false
  next_not =
      subst (λ r. is_made r ≡ false) (sym c.continues)
      (not_made (option_map_or (λ d. same_event d c.event) (next_event l (actor w c.event) w) false)
      (next_done l w c.event) (subst (λ r. is_made r ≡ false) (sym c.answered) refl))

  abbrev makes : WorldEvent → Bool
  makes e = (actor w e == t) && is_accepted l w e

  fails : (n : ℕ) → may_fail l w t n ≡ false → makes (Fail t n) ≡ false
  fails n k = and_right (actor w (Fail t n) == t) (is_accepted l w (Fail t n)) (not_done (may_fail l w t n) k)

  last : list_any makes (option_to_list (next_event l t w)) ≡ false
  last =
      subst (λ o. list_any makes (option_to_list o) ≡ false) (sym c.next)
      (or_from (makes c.event) false (and_right (actor w c.event == t) (is_accepted l w c.event) next_not) refl)

  none : list_any makes (candidates l w t) ≡ false
  none =
      or_from (makes (Fail t 7)) _ (fails 7 fails_7)
      (or_from (makes (Fail t 14)) _ (fails 14 fails_14)
      (or_from (makes (Fail t 15)) _ (fails 15 fails_15)
      (or_from (makes (Fail t 23)) _ (fails 23 fails_23) last)))

  pub not_able : is_able l w t ≡ false
  not_able = and_right (not (is_ended t w)) (list_any makes (candidates l w t)) none

pub waiters_are_not_able : WaitersAreNotAble
waiters_are_not_able l w t c = not_able l w t c
