-- Where a finish is shut, all tasks inside it have ended, and nobody is left on its phasers.
use Rattle.std.proofs.Common.{◌≡◌, ℕ, Bool, true, false, ◌==◌, not, cond, List, [], ◌∷◌, Option, Some, refl, sym, subst, ap, ◌∙◌, inl, inr}
use Rattle.std.specs.List.{list_any}
use Rattle.std.proofs.lemmas.Bool.{and_parts, or_cases, cases_Bool, eqb-true, eq-eqb, true≢false, false≢true, false_from_ne_true}
use Rattle.phase_modes.specs.declared.limits.Limits.{Limits}
use Rattle.phase_model.specs.Tasks.{is_registered, is_dropped, is_live}
use Rattle.finish_core.specs.declared.event.FinishEvent.TheVariants.{Ended, Shut as Shutting}
use Rattle.finish_core.specs.Finish.{is_open, is_spawned, all_ended}
use Rattle.finish_core.proofs.Standing.{all_ended_at}
use Rattle.world_model.specs.declared.event.WorldEvent.{WorldEvent}
use Rattle.world_model.specs.declared.event.WorldEvent.TheVariants.{Finish, Begin}
use Rattle.world_model.specs.declared.event.Begun.TheVariants.{Async}
use Rattle.world_model.specs.Parts.{phaser_past, finish_past}
use Rattle.world_model.specs.Tasks.{home, is_born, is_ended}
use Rattle.world_model.specs.Scopes.{inner, owner, enclosing, open_finishes}
use Rattle.world_model.specs.Due.{due}
use Rattle.world_model.specs.Replies.{is_legal_world, is_accepted}
use Rattle.world_model.specs.TaskConditions.{last_entry}
use Rattle.world_model.specs.ScopeLaws.{Inside, ShutsLeaveNobody}
use Rattle.world_model.specs.ClockLaws.{leads_to_end}
use Rattle.world_model.proofs.MadeMeans.{last_accepted, part_made}
use Rattle.world_model.proofs.FinishesLegal.{event_allowed}
use Rattle.world_model.proofs.SpawnUnderWay.{begins_spawn}
use Rattle.world_model.proofs.AbruptEnds.{half_spawned}
use Rattle.world_model.proofs.AgentOfTask.{agent}
use Rattle.world_model.proofs.DueStays.{IsFirstDue, first_is}
use Rattle.world_model.proofs.SpawnedAtHome.{legal_rest, root_home, spawner_is_born}
use Rattle.world_model.proofs.RegisteredInScope.{registered_in_scope, agent_born}
use Rattle.world_model.proofs.LeavingList.{ends_act, is_drop_of, last_of, shuts_of, tail_of, Leaving}
use Rattle.world_model.proofs.LeavingAlways.{live_named, agent_is}
use Rattle.world_model.proofs.EndingStays.{leaving}
use Rattle.world_model.proofs.ShutterDropsFirst.{shuts_act, Shutter, shutting}
use Rattle.world_model.proofs.LeavesAtEnds.{none_in_map, none_in_both, leave_act, end_left, shut_left, root_owner}
use Rattle.world_model.proofs.EndedInside.{ended_holds_nothing, ended_in, home_spawned, inside_ended}

-- what comes after the drops has none
pub tail_without_drops : (t u n : ℕ) (w : List WorldEvent) → list_any (is_drop_of u n) (tail_of t w) ≡ false
tail_without_drops t u n w =
    none_in_both (is_drop_of u n) (shuts_of (open_finishes t w)) (last_of t w ∷ []) (none_in_map
    (is_drop_of u n) (λ f. Finish f Shutting) (open_finishes t w) (λ f. refl)) (no_last (t == 0))
  where
    no_last : (b : Bool)
        → list_any (is_drop_of u n) (cond b (Finish 0 Shutting) (Finish (home t w) (Ended t)) ∷ []) ≡ false
    no_last true = refl
    no_last false = refl

-- the act of a shut is no spawn, and doesn't lead to the end
pub shut_no_spawn : (c : ℕ) (o : Option WorldEvent) → shuts_act o ≡ true → begins_spawn c o ≡ true → ⊥
shut_no_spawn c (Some (Begin u (Async x ps))) s b = false≢true s
shut_no_spawn c o s b = absurd cc

pub shut_no_end : (o : Option WorldEvent) → shuts_act o ≡ true → leads_to_end o ≡ true → ⊥
shut_no_end (Some (Begin u b)) s e = false≢true e
shut_no_end o s e = absurd cc

module _ (l : Limits) (w : List WorldEvent) (k : is_legal_world l w ≡ true) where
  -- a task that has come to the shut of f holds nothing in f, nor does a child of it that isn't born
  pub shutter_left : (o f t n : ℕ) (ds : List WorldEvent) → due o w ≡ Finish f Shutting ∷ ds
      → enclosing n w ≡ f → agent t w ≡ o → is_live t (phaser_past n w) ≡ true → ⊥
  shutter_left o f t n ds here in_f g v =
      let e = Finish f Shutting in
      elim (or_cases (ends_act (last_entry o w)) (shuts_act (last_entry o w))
      (leave_act l o w ds e k here refl)) [
        | inl q ↦
            let p : Leaving o w (e ∷ ds) = subst (λ xs. Leaving o w xs) here (leaving l o w k q) in
            let tail = end_left l o w ds e k here refl q in
            true≢false (sym (subst (λ xs. list_any (is_drop_of t n) xs ≡ true) tail (p.covers t n g v))
            ∙ tail_without_drops o t n w)
        | inr q ↦
            let p : Shutter o w (e ∷ ds) = subst (λ xs. Shutter o w xs) here (shutting l o w k q) in
            let left = shut_left l o w ds e k here refl q in
            elim (agent_is t o w g) [
              | inl b ↦
                  let inside : (enclosing n w == inner o w) ≡ true =
                  eq-eqb (enclosing n w) (inner o w) (in_f ∙ same_number (inner o w) left.0) in
                  let held : is_live o (phaser_past n w) ≡ true =
                  subst (λ x. is_live x (phaser_past n w) ≡ true) b.1 v in
                  false≢true
                  (subst (λ xs. list_any (is_drop_of o n) xs ≡ true) left.1 (p.covers refl n held inside))
              | inr b ↦
                  elim (half_spawned l t w k (live_named l w t n k v) b.0) [
                    | inl x ↦
                        shut_no_spawn t (last_entry o w) q
                        (subst (λ y. begins_spawn t (last_entry y w) ≡ true) b.1 x.0)
                    | inr x ↦
                        shut_no_end (last_entry o w) q
                        (subst (λ y. leads_to_end (last_entry y w) ≡ true) b.1 x)
                  ]
            ]
      ]
    where
      same_number : (g : ℕ) → Finish f Shutting ≡ Finish g Shutting → f ≡ g
      same_number g h = cc

  -- whoever is on a phaser of f is the owner's, or is spawned in f
  nobody_left : (f : ℕ) → is_accepted l w (Finish f Shutting) ≡ true → (t n : ℕ) → enclosing n w ≡ f
      → is_live t (phaser_past n w) ≡ false
  nobody_left f a t n in_f =
      false_from_ne_true (is_live t (phaser_past n w)) (λ v.
      let d : IsFirstDue (owner f w) w (Finish f Shutting) =
      first_is l w (Finish f Shutting) (part_made l w (Finish f Shutting) a).0 refl in
      let owners : agent t w ≡ owner f w → ⊥ = λ g. shutter_left (owner f w) f t n d.rest d.is in_f g v in
      let q = agent t w in
      elim (registered_in_scope l w k t n
      (and_parts (is_registered t (phaser_past n w)) (not (is_dropped t (phaser_past n w))) v).0) [
        | inr o ↦ owners (sym o ∙ ap (λ g. owner g w) in_f)
        | inl h ↦
            elim (cases_Bool (q == 0)) [
              | inl z ↦
                  let zero : q ≡ 0 = eqb-true q 0 z in
                  let f0 : f ≡ 0 = sym in_f ∙ (sym h ∙ (ap (λ v. home v w) zero ∙ root_home l w k)) in
                  owners (zero ∙ sym (ap (λ g. owner g w) f0 ∙ root_owner l w k))
              | inr z ↦
                  let born : is_born q w ≡ true =
                  agent_born l (Finish f Shutting) w k a t
                  (spawner_is_born l w k t (live_named l w t n k v)) in
                  let spawned : is_spawned q (finish_past f w) ≡ true =
                  subst (λ g. is_spawned q (finish_past g w) ≡ true) (h ∙ in_f)
                  (home_spawned l w k q born z) in
                  let all =
                  (and_parts (is_open (finish_past f w)) (all_ended (finish_past f w))
                  (event_allowed l w f Shutting a)).1 in
                  let gone : is_ended q w ≡ true =
                  ended_in q f w (all_ended_at (finish_past f w) q all spawned) in
                  true≢false (sym v ∙ ended_holds_nothing l w k q t n gone refl)
            ]
      ])

  at_shut : (f : ℕ) → is_accepted l w (Finish f Shutting) ≡ true
      → ((t : ℕ) → Inside w f t → is_ended t w ≡ true)
      × ((t n : ℕ) → enclosing n w ≡ f → is_live t (phaser_past n w) ≡ false)
  at_shut f a = (
    λ t i. inside_ended l w k f (and_parts (is_open (finish_past f w)) (all_ended (finish_past f w))
        (event_allowed l w f Shutting a)).1 t i,
    λ t n e. nobody_left f a t n e,
  )

pub shuts_leave_nobody : ShutsLeaveNobody
shuts_leave_nobody l w k later before f is =
    let a =
    last_accepted l (Finish f Shutting) before
    (legal_rest l later (Finish f Shutting ∷ before) (subst (λ v. is_legal_world l v ≡ true) is k)) in
    at_shut l before a.1 f a.0
