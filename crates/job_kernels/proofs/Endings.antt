-- Who was dropped from a phaser, and who has ended, had begun its end before.
use Rattle.std.proofs.Common.{◌≡◌, ℕ, Bool, true, false, ◌&&◌, ◌==◌, cond, List, [], ◌∷◌, ◌++◌, map, Option, Some, refl, sym, subst, ap, ◌∙◌, inl, inr}
use Rattle.std.specs.Prelude.{drop}
use Rattle.std.specs.List.{list_all}
use Rattle.std.proofs.lemmas.Bool.{and_parts, and_from, or_cases, cases_Bool, eqb-true, eq-eqb, true≢false, false≢true, false_from_ne_true}
use Rattle.phase_modes.specs.declared.limits.Limits.{Limits}
use Rattle.phase_model.specs.Tasks.{is_dropped}
use Rattle.finish_core.specs.declared.event.FinishEvent.TheVariants.{Opened, Spawned, Ended, Shut as Shutting}
use Rattle.world_model.specs.declared.event.Step.TheVariants.{Drop}
use Rattle.world_model.specs.declared.event.Begun.TheVariants.{End}
use Rattle.world_model.specs.declared.event.WorldEvent.{WorldEvent}
use Rattle.world_model.specs.declared.event.WorldEvent.TheVariants.{Phaser, Finish, Begin, Refuse, Fail}
use Rattle.world_model.specs.Actors.{actor}
use Rattle.world_model.specs.Parts.{phaser_past}
use Rattle.world_model.specs.Scopes.{open_finishes, owner}
use Rattle.world_model.specs.Tasks.{home, phasers_of, is_ended}
use Rattle.world_model.specs.Due.{due, fixed, ending, drops_due, is_entry, is_idle}
use Rattle.world_model.specs.Replies.{is_legal_world, is_accepted}
use Rattle.world_model.specs.TaskConditions.{last_entry}
use Rattle.world_model.proofs.MadeMeans.{part_made}
use Rattle.world_model.proofs.DueHolds.{due_has}
use Rattle.world_model.proofs.PhasersLegal.{event_of}
use Rattle.world_model.proofs.LeavingList.{ends_act}
use Rattle.world_model.proofs.LeavesAtEnds.{is_leave, leave_act, root_owner}
use Rattle.job_kernels.proofs.Plain.{IsPlain, last_of_plain, is_plain, due_next, ends_stays, ends_never_idle, by_last, leaves_to_end}

-- the entry begins an end
abbrev pub is_end : Option WorldEvent → Bool
is_end (Some (Begin t End)) = true
is_end _ = false

by_entry : (t : ℕ) (e : WorldEvent) → is_plain e ≡ true → is_entry t e ≡ true → ends_act (Some e) ≡ true
    → is_end (Some e) ≡ true
by_entry t (Begin u End) p n q = refl
by_entry t (Refuse u b x) p n q = absurd (false≢true p)
by_entry t (Fail u x) p n q = absurd (false≢true p)
by_entry t (Begin u b) p n q = absurd (false≢true q)
by_entry t e p n q = absurd (false≢true q)

ends_by_end : (t : ℕ) (w : List WorldEvent) → list_all is_plain w ≡ true
    → ends_act (last_entry t w) ≡ true → is_end (last_entry t w) ≡ true
ends_by_end t w k q = by_last (λ o. ends_act o) is_end t refl (by_entry t) w k q

-- an idle task is in no act that ends it
pub not_ending : (l : Limits) (w : List WorldEvent) → is_legal_world l w ≡ true → (t : ℕ) → is_idle t w ≡ true
    → ends_act (last_entry t w) ≡ false
not_ending l w k t idle =
    false_from_ne_true (ends_act (last_entry t w)) (λ q. true≢false (sym idle ∙ ends_never_idle l t w k q))

-- ---- what an end fixes for t is t's own

abbrev pub is_own : ℕ → WorldEvent → Bool
is_own t (Phaser n (Drop u)) = u == t
is_own t (Finish f (Ended u)) = u == t
is_own t _ = true

all_own : {X : Type 0} (t : ℕ) (f : X → WorldEvent) (xs : List X) → ((x : X) → is_own t (f x) ≡ true)
    → list_all (is_own t) (map f xs) ≡ true
all_own t f [] k = refl
all_own t f (x ∷ xs) k = and_from (is_own t (f x)) (list_all (is_own t) (map f xs)) (k x) (all_own t f xs k)

both_own : (t : ℕ) (xs ys : List WorldEvent) → list_all (is_own t) xs ≡ true → list_all (is_own t) ys ≡ true
    → list_all (is_own t) (xs ++ ys) ≡ true
both_own t [] ys a b = b
both_own t (x ∷ xs) ys a b =
    let c = and_parts (is_own t x) (list_all (is_own t) xs) a in
    and_from (is_own t x) (list_all (is_own t) (xs ++ ys)) c.0 (both_own t xs ys c.1 b)

ending_own : (t : ℕ) (w : List WorldEvent) → list_all (is_own t) (ending t w) ≡ true
ending_own t w =
    let self : (t == t) ≡ true = eq-eqb t t refl in
    let shuts = map (λ f. Finish f Shutting) (open_finishes t w) in
    both_own t (drops_due t w ++ shuts) (cond (t == 0) (Finish 0 Shutting) (Finish (home t w) (Ended t)) ∷ [])
    (both_own t (drops_due t w) shuts (all_own t (λ n. Phaser n (Drop t)) (phasers_of t w) (λ n. self))
    (all_own t (λ f. Finish f Shutting) (open_finishes t w) (λ f. refl)))
    (last_own (t == 0) self)
  where
    last_own : (b : Bool) → (t == t) ≡ true
        → list_all (is_own t) (cond b (Finish 0 Shutting) (Finish (home t w) (Ended t)) ∷ []) ≡ true
    last_own true s = refl
    last_own false s = rw s refl

entry_own : (t : ℕ) (e : WorldEvent) (w : List WorldEvent) → is_entry t e ≡ true → is_end (Some e) ≡ true
    → list_all (is_own t) (fixed e w) ≡ true
entry_own t (Begin u End) w n q =
    subst (λ v. list_all (is_own v) (ending u w) ≡ true) (eqb-true u t n) (ending_own u w)
entry_own t (Begin u b) w n q = absurd (false≢true q)
entry_own t (Refuse u b x) w n q = absurd (false≢true q)
entry_own t (Fail u x) w n q = absurd (false≢true q)
entry_own t (Phaser m s) w n q = absurd (false≢true q)
entry_own t (Finish f s) w n q = absurd (false≢true q)

less_own : (t : ℕ) (ds : List WorldEvent) → list_all (is_own t) ds ≡ true
    → list_all (is_own t) (drop 1 ds) ≡ true
less_own t [] k = refl
less_own t (d ∷ ds) k = (and_parts (is_own t d) (list_all (is_own t) ds) k).1

own_only : (l : Limits) (t : ℕ) (w : List WorldEvent) → is_legal_world l w ≡ true
    → is_end (last_entry t w) ≡ true → list_all (is_own t) (due t w) ≡ true
own_only l t w k q =
    due_has l t is_end (λ ds. list_all (is_own t) ds ≡ true) refl (less_own t)
    (λ e v h x y. entry_own t e v x y) w k q

-- ---- who leaves is on its way to its end, and leaves for itself

pub record Leaves (t : ℕ) (w : List WorldEvent) (e : WorldEvent) : Type 0 where
  pub ends : ends_act (last_entry t w) ≡ true
  pub own : is_own t e ≡ true

leaves : (l : Limits) (w : List WorldEvent) (e : WorldEvent) (t : ℕ) (ds : List WorldEvent) → IsPlain l w
    → is_leave e ≡ true → due t w ≡ e ∷ ds → Leaves t w e
leaves l w e t ds k y here =
    let ends : ends_act (last_entry t w) ≡ true =
    leaves_to_end t w k.plain (leave_act l t w ds e k.legal here y) in
    let own : list_all (is_own t) (e ∷ ds) ≡ true =
    subst (λ xs. list_all (is_own t) xs ≡ true) here
    (own_only l t w k.legal (ends_by_end t w k.plain ends)) in
    record { ends = ends; own = (and_parts (is_own t e) (list_all (is_own t) ds) own).0 }

-- the drop of u is its own
drop_by_own : (l : Limits) (w : List WorldEvent) (n u : ℕ) → IsPlain l w
    → is_accepted l w (Phaser n (Drop u)) ≡ true
    → ends_act (last_entry u w) ≡ true
drop_by_own l w n u k a =
    let e = Phaser n (Drop u) in
    let t = actor w e in
    let r : Leaves t w e =
    leaves l w e t (due t (e ∷ w)) k refl (due_next l w e t (part_made l w e a).0 refl refl refl) in
    subst (λ v. ends_act (last_entry v w) ≡ true) (sym (eqb-true u t r.own)) r.ends

pub dropped_ends : (l : Limits) (t n : ℕ) (w : List WorldEvent) → IsPlain l w
    → is_dropped t (phaser_past n w) ≡ true → ends_act (last_entry t w) ≡ true
dropped_ends l t n [] k h = absurd (false≢true h)
dropped_ends l t n (Phaser m (Drop u) ∷ w) k h =
    let f = last_of_plain l (Phaser m (Drop u)) w k in
    elim (cases_Bool (m == n)) [
      | inr o ↦ dropped_ends l t n w f.before (rw o at h)
      | inl o ↦
          elim (or_cases (u == t) (is_dropped t (phaser_past n w)) (rw o at h)) [
            | inl s ↦
                subst (λ v. ends_act (last_entry v w) ≡ true) (eqb-true u t s)
                (drop_by_own l w m u f.before f.accepted)
            | inr s ↦ dropped_ends l t n w f.before s
          ]
    ]
dropped_ends l t n (Phaser m s ∷ w) k h =
    dropped_ends l t n w (last_of_plain l (Phaser m s) w k).before (kept (m == n) h)
  where
    kept : (b : Bool) → is_dropped t (cond b (event_of n w s ∷ phaser_past n w) (phaser_past n w)) ≡ true
        → is_dropped t (phaser_past n w) ≡ true
    kept true g = g
    kept false g = g
dropped_ends l t n (e ∷ w) k h =
    let f = last_of_plain l e w k in ends_stays l t e w k (dropped_ends l t n w f.before h)

-- ---- who has ended

pub ended_ends : (l : Limits) (t : ℕ) (w : List WorldEvent) → IsPlain l w → is_ended t w ≡ true
    → ends_act (last_entry t w) ≡ true
ended_ends l t [] k h = absurd (false≢true h)
ended_ends l t (Finish f (Ended u) ∷ w) k h =
    let e = Finish f (Ended u) in
    let g = last_of_plain l e w k in
    elim (or_cases (u == t) (is_ended t w) h) [
      | inl s ↦
          let r : Leaves u w e =
          leaves l w e u (due u (e ∷ w)) g.before refl
          (due_next l w e u (part_made l w e g.accepted).0 refl refl refl) in
          subst (λ v. ends_act (last_entry v w) ≡ true) (eqb-true u t s) r.ends
      | inr s ↦ ended_ends l t w g.before s
    ]
ended_ends l t (Finish f Shutting ∷ w) k h =
    let e = Finish f Shutting in
    let g = last_of_plain l e w k in
    elim (or_cases (f == 0 && t == 0) (is_ended t w) h) [
      | inl s ↦
          let p = and_parts (f == 0) (t == 0) s in
          let q = owner f w in
          let r : Leaves q w e =
          leaves l w e q (due q (e ∷ w)) g.before refl
          (due_next l w e q (part_made l w e g.accepted).0 refl refl refl) in
          let root : q ≡ t =
          ap (λ v. owner v w) (eqb-true f 0 p.0) ∙ (root_owner l w g.before.legal ∙ sym (eqb-true t 0 p.1)) in
          subst (λ v. ends_act (last_entry v w) ≡ true) root r.ends
      | inr s ↦ ended_ends l t w g.before s
    ]
ended_ends l t (Finish f (Opened u) ∷ w) k h =
    ended_ends l t w (last_of_plain l (Finish f (Opened u)) w k).before h
ended_ends l t (Finish f (Spawned u) ∷ w) k h =
    ended_ends l t w (last_of_plain l (Finish f (Spawned u)) w k).before h
ended_ends l t (e ∷ w) k h =
    let f = last_of_plain l e w k in ends_stays l t e w k (ended_ends l t w f.before h)
