-- The history of each finish of a legal world is legal.
use Rattle.std.proofs.Common.{◌≡◌, ℕ, Bool, true, false, ◌==◌, cond, List, [], ◌∷◌, refl, subst, inl, inr}
use Rattle.std.specs.Prelude.{Result, Ok, Err}
use Rattle.std.proofs.lemmas.Bool.{and_from, cases_Bool, eqb-true}
use Rattle.phase_modes.specs.declared.limits.Limits.{Limits}
use Rattle.phase_modes.specs.declared.refusal.Refusal.{Refusal}
use Rattle.finish_core.specs.declared.event.FinishEvent.{FinishEvent}
use Rattle.finish_core.specs.declared.event.FinishEvent.TheVariants.{Opened, Spawned, Ended, Shut as Shutting}
use Rattle.finish_core.specs.Finish.{is_allowed, is_legal_finish, all_ended}
use Rattle.finish_core.specs.Replies as finish
use Rattle.finish_core.proofs.Legal.{done_is_allowed}
use Rattle.world_model.specs.declared.event.Tried.TheVariants.{Open}
use Rattle.world_model.specs.declared.event.WorldEvent.{WorldEvent}
use Rattle.world_model.specs.declared.event.WorldEvent.TheVariants.{Finish}
use Rattle.world_model.specs.declared.reply.Reply.{Reply}
use Rattle.world_model.specs.declared.reply.Reply.TheVariants.{NotYet}
use Rattle.world_model.specs.Parts.{finish_past}
use Rattle.world_model.specs.Replies.{is_accepted, is_legal_world, is_made}
use Rattle.world_model.specs.PartReplies.{finish_returned, finish_reply}
use Rattle.world_model.proofs.MadeMeans.{last_accepted, act_made, part_made}

-- a finish's event that is made was done
done_by : (r : Result (Unit {0}) Refusal) → is_made (finish_returned r) ≡ true → r ≡ Ok tt
done_by (Ok u) k = refl
done_by (Err r) k = absurd cc

made_in : (b : Bool) (r : Result Reply Refusal) → is_made (cond b r (Ok NotYet)) ≡ true → is_made r ≡ true
made_in true r k = k
made_in false r k = absurd cc

module _ (l : Limits) (w : List WorldEvent) (f : ℕ) where
  by_reply : (e : FinishEvent) → is_made (finish_returned (finish.reply l.tasks (finish_past f w) e)) ≡ true
      → is_allowed l.tasks (finish_past f w) e ≡ true
  by_reply e k =
      done_is_allowed l.tasks (finish_past f w) e (done_by (finish.reply l.tasks (finish_past f w) e) k)

  made_allowed : (e : FinishEvent) → is_made (finish_reply l w f e) ≡ true
      → is_allowed l.tasks (finish_past f w) e ≡ true
  made_allowed (Opened t) k = by_reply (Opened t) k
  made_allowed (Spawned t) k = by_reply (Spawned t) k
  made_allowed (Ended t) k = by_reply (Ended t) k
  made_allowed Shutting k =
      by_reply Shutting (made_in (all_ended (finish_past f w))
      (finish_returned (finish.reply l.tasks (finish_past f w) Shutting)) k)

  -- an accepted event is one that the finish's history allows
  pub event_allowed : (e : FinishEvent) → is_accepted l w (Finish f e) ≡ true
      → is_allowed l.tasks (finish_past f w) e ≡ true
  event_allowed (Opened t) k = made_allowed (Opened t) (act_made l w t (Open f) k).1
  event_allowed (Spawned t) k = made_allowed (Spawned t) (part_made l w (Finish f (Spawned t)) k).1
  event_allowed (Ended t) k = made_allowed (Ended t) (part_made l w (Finish f (Ended t)) k).1
  event_allowed Shutting k = made_allowed Shutting (part_made l w (Finish f Shutting) k).1

abbrev pub FinishLegal : Limits → ℕ → List WorldEvent → Type 0
FinishLegal l f w = is_legal_finish l.tasks (finish_past f w) ≡ true

first_alone : (tasks f : ℕ) → (b : Bool) → is_legal_finish tasks (cond b (Opened 0 ∷ []) []) ≡ true
first_alone tasks f true = refl
first_alone tasks f false = refl

pub finishes_legal : (l : Limits) (w : List WorldEvent) → is_legal_world l w ≡ true → (f : ℕ)
    → FinishLegal l f w
finishes_legal l [] k f = first_alone l.tasks f (f == 0)
finishes_legal l (Finish g e ∷ w) k f =
    let a = last_accepted l (Finish g e) w k in
    let before : FinishLegal l f w = finishes_legal l w a.1 f in
    elim (cases_Bool (g == f)) [
      | inl same ↦
          rw same
          (and_from (is_allowed l.tasks (finish_past f w) e) (is_legal_finish l.tasks (finish_past f w))
          (subst (λ v. is_allowed l.tasks (finish_past v w) e ≡ true) (eqb-true g f same)
          (event_allowed l w g e a.0)) before)
      | inr other ↦ rw other before
    ]
finishes_legal l (e ∷ w) k f = finishes_legal l w (last_accepted l e w k).1 f
