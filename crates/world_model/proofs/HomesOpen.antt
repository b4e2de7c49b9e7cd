-- A task that goes on has an open home and an open innermost finish,
-- and a child under way has a number and no place yet.
use Rattle.std.proofs.Common.{◌≡◌, ℕ, Bool, true, false, ◌&&◌, ◌||◌, ◌==◌, nat_lt, cond, List, [], ◌∷◌, Some, refl, sym, subst, ap, ◌∙◌, inl, inr}
use Rattle.std.specs.List.{list_any}
use Rattle.std.proofs.lemmas.Bool.{or_cases, or_left, or_right, or_parts, cases_Bool, eqb-true, not-true, true≢false, false≢true}
use Rattle.phase_modes.specs.Lists.{is_empty}
use Rattle.phase_modes.specs.declared.limits.Limits.{Limits}
use Rattle.phase_modes.specs.declared.refusal.Refusal.TheVariants.{TasksFull}
use Rattle.finish_core.specs.declared.event.FinishEvent.TheVariants.{Opened, Spawned, Ended, Shut as Shutting}
use Rattle.finish_core.specs.Finish.{is_open, is_spawned}
use Rattle.world_model.specs.declared.event.Begun.TheVariants.{Async}
use Rattle.world_model.specs.declared.event.WorldEvent.{WorldEvent}
use Rattle.world_model.specs.declared.event.WorldEvent.TheVariants.{Finish, Begin}
use Rattle.world_model.specs.Parts.{finish_past}
use Rattle.world_model.specs.Tasks.{home, spawns, is_born, is_ended, ends}
use Rattle.world_model.specs.Scopes.{inner}
use Rattle.world_model.specs.Due.{is_entry}
use Rattle.world_model.specs.Replies.{is_legal_world, is_accepted}
use Rattle.world_model.specs.Acts.{facts}
use Rattle.world_model.specs.ActConditions.{pair_conditions}
use Rattle.world_model.specs.TaskConditions.{last_entry}
use Rattle.world_model.proofs.MadeMeans.{last_accepted, no_refusal, begin_asked}
use Rattle.world_model.proofs.OthersLeave.{last_plain}
use Rattle.world_model.proofs.FinishesLegal.{finishes_legal}
use Rattle.world_model.proofs.SpawnUnderWay.{begins_spawn}
use Rattle.world_model.proofs.OpenFinishes.{open_later, open_is_own, inner_is_opened, root_finish, shuts_finish}
use Rattle.world_model.proofs.DueStays.{last_of_entry}
use Rattle.world_model.proofs.SpawnedAtHome.{root_home, home_begun}
use Rattle.world_model.proofs.EndedInside.{closed_ended, ended_in, home_spawned}

-- finish 0 is open until the root ends
pub root_open : (l : Limits) (w : List WorldEvent) → is_legal_world l w ≡ true → is_ended 0 w ≡ false
    → is_open (finish_past 0 w) ≡ true
root_open l [] k x = refl
root_open l (e ∷ w) k x =
    let a = last_accepted l e w k in
    let p = or_parts (ends 0 e) (is_ended 0 w) x in
    open_later l 0 e w (root_finish w) (no_shut e p.0) ∙ root_open l w a.1 p.1
  where
    no_shut : (d : WorldEvent) → ends 0 d ≡ false → shuts_finish 0 d ≡ false
    no_shut (Finish g Shutting) y = sym (with_true (g == 0)) ∙ y
      where
        with_true : (b : Bool) → (b && true) ≡ b
        with_true true = refl
        with_true false = refl
    no_shut d y = refl

pub home_open : (l : Limits) (w : List WorldEvent) → is_legal_world l w ≡ true → (t : ℕ) → is_born t w ≡ true
    → is_ended t w ≡ false → is_open (finish_past (home t w) w) ≡ true
home_open l w k t b x =
    elim (cases_Bool (t == 0)) [
      | inl z ↦
          let zero : t ≡ 0 = eqb-true t 0 z in
          let here : home t w ≡ 0 = ap (λ v. home v w) zero ∙ root_home l w k in
          subst (λ f. is_open (finish_past f w) ≡ true) (sym here)
          (root_open l w k (subst (λ v. is_ended v w ≡ false) zero x))
      | inr z ↦
          elim (cases_Bool (is_open (finish_past (home t w) w))) [
            | inl o ↦ o
            | inr o ↦
                let h = finish_past (home t w) w in
                let gone =
                closed_ended l.tasks h (finishes_legal l w k (home t w))
                (not-true (is_empty h) (home_begun l w k t)) o t (home_spawned l w k t b z) in
                absurd (true≢false (sym (ended_in t (home t w) w gone) ∙ x))
          ]
    ]

pub inner_open : (l : Limits) (w : List WorldEvent) → is_legal_world l w ≡ true → (t : ℕ) → is_born t w ≡ true
    → is_ended t w ≡ false → is_open (finish_past (inner t w) w) ≡ true
inner_open l w k t b x =
    elim (inner_is_opened l w k t) [
      | inl e ↦ subst (λ f. is_open (finish_past f w) ≡ true) (sym e) (home_open l w k t b x)
      | inr h ↦ (open_is_own l w k t (inner t w) h).1
    ]

-- who was spawned was born
pub spawned_is_born : (t f : ℕ) (w : List WorldEvent) → is_spawned t (finish_past f w) ≡ true
    → is_born t w ≡ true
spawned_is_born t f w s = or_right (t == 0) (list_any (spawns t) w) (by_spawn w s)
  where
    by_spawn : (w : List WorldEvent) → is_spawned t (finish_past f w) ≡ true → list_any (spawns t) w ≡ true
    by_spawn [] y = absurd (false≢true (sym (never (f == 0)) ∙ y))
      where
        never : (b : Bool) → is_spawned t (cond b (Opened 0 ∷ []) []) ≡ false
        never true = refl
        never false = refl
    by_spawn (Finish g (Spawned u) ∷ w) y =
        (elim (g == f) as (λ b. is_spawned t (cond b (Spawned u ∷ finish_past f w) (finish_past f w)) ≡ true
        → ((u == t) || list_any (spawns t) w) ≡ true) [
          | true ↦
              λ z. elim (or_cases (u == t) (is_spawned t (finish_past f w)) z) [
                | inl v ↦ or_left (u == t) (list_any (spawns t) w) v
                | inr v ↦ or_right (u == t) (list_any (spawns t) w) (by_spawn w v)
              ]
          | false ↦ λ z. or_right (u == t) (list_any (spawns t) w) (by_spawn w z)
        ]) y
    by_spawn (Finish g Shutting ∷ w) y =
        (elim (g == f) as (λ b. is_spawned t (cond b (Shutting ∷ finish_past f w) (finish_past f w)) ≡ true
        → list_any (spawns t) w ≡ true) [
          | true ↦ λ z. by_spawn w z
          | false ↦ λ z. by_spawn w z
        ]) y
    by_spawn (Finish g (Opened u) ∷ w) y =
        (elim (g == f) as (λ b. is_spawned t (cond b (Opened u ∷ finish_past f w) (finish_past f w)) ≡ true
        → list_any (spawns t) w ≡ true) [
          | true ↦ λ z. by_spawn w z
          | false ↦ λ z. by_spawn w z
        ]) y
    by_spawn (Finish g (Ended u) ∷ w) y =
        (elim (g == f) as (λ b. is_spawned t (cond b (Ended u ∷ finish_past f w) (finish_past f w)) ≡ true
        → list_any (spawns t) w ≡ true) [
          | true ↦ λ z. by_spawn w z
          | false ↦ λ z. by_spawn w z
        ]) y
    by_spawn (e ∷ w) y = by_spawn w y

-- a child under way has a number below the limit
pub spawn_fits : (l : Limits) (q c : ℕ) (w : List WorldEvent) → is_legal_world l w ≡ true
    → begins_spawn c (last_entry q w) ≡ true → nat_lt c l.tasks ≡ true
spawn_fits l q c [] k s = absurd (false≢true s)
spawn_fits l q c (e ∷ w) k s =
    let a = last_accepted l e w k in
    elim (cases_Bool (is_entry q e)) [
      | inl n ↦ at_entry e a.0 (subst (λ o. begins_spawn c o ≡ true) (last_of_entry q e w n) s)
      | inr n ↦ spawn_fits l q c w a.1 (subst (λ o. begins_spawn c o ≡ true) (last_plain q e w n) s)
    ]
  where
    at_entry : (d : WorldEvent) → is_accepted l w d ≡ true → begins_spawn c (Some d) ≡ true
        → nat_lt c l.tasks ≡ true
    at_entry (Begin u (Async x ps)) h y =
        subst (λ v. nat_lt v l.tasks ≡ true) (eqb-true x c y) (no_refusal TasksFull (nat_lt x l.tasks)
        (pair_conditions (facts w u) [] ps) (begin_asked l w u (Async x ps) h)).0
    at_entry d h y = absurd cc
