-- Each child that the root named is born once the root is on its way to its end, and where the root has ended, so has
-- the child.
use Rattle.std.proofs.Common.{◌≡◌, ℕ, true, false, ◌||◌, ◌==◌, List, [], ◌∷◌, refl, sym, subst, ap, ◌∙◌, inl, inr}
use Rattle.std.specs.List.{list_any, list_all}
use Rattle.std.proofs.lemmas.Bool.{or_cases, or_left, or_right, cases_Bool, eqb-true, true≢false, false≢true}
use Rattle.phase_modes.specs.declared.limits.Limits.{Limits}
use Rattle.finish_core.specs.declared.event.FinishEvent.TheVariants.{Spawned, Ended, Shut as Shutting}
use Rattle.world_model.specs.declared.event.Step.TheVariants.{Drop}
use Rattle.world_model.specs.declared.event.Begun.{Begun}
use Rattle.world_model.specs.declared.event.Begun.TheVariants.{Async}
use Rattle.world_model.specs.declared.event.Tried.TheVariants.{Begun as Beginning}
use Rattle.world_model.specs.declared.event.WorldEvent.{WorldEvent}
use Rattle.world_model.specs.declared.event.WorldEvent.TheVariants.{Phaser, Finish, Begin, Refuse, Fail}
use Rattle.world_model.specs.Due.{due, is_entry}
use Rattle.world_model.specs.Numbers.{names, is_named}
use Rattle.world_model.specs.Replies.{is_accepted}
use Rattle.world_model.specs.Scopes.{inner}
use Rattle.world_model.specs.TaskConditions.{last_entry}
use Rattle.world_model.specs.Tasks.{is_born, is_ended, spawns}
use Rattle.world_model.proofs.AbleComputed.{idle_in_act}
use Rattle.world_model.proofs.AbruptEnds.{nothing_due}
use Rattle.world_model.proofs.DropsStandAlways.{leaves_only}
use Rattle.world_model.proofs.LeavesAtEnds.{is_leave}
use Rattle.world_model.proofs.LeavingList.{ends_act, any_append_right}
use Rattle.world_model.proofs.OthersLeave.{due_other}
use Rattle.world_model.proofs.RootEndsLast.{ended_roots_leave_nobody}
use Rattle.world_model.proofs.ShutterDropsFirst.{shuts_act}
use Rattle.world_model.proofs.SmallWords.{empty_is}
use Rattle.job_kernels.proofs.Plain.{IsPlain, last_of_plain, is_plain, any_kept}
use Rattle.job_kernels.proofs.Endings.{ended_ends}
use Rattle.job_kernels.proofs.Joining.{regs_of}

-- c is born, or its birth is due to the root
abbrev IsComing : ℕ → List WorldEvent → Type 0
IsComing c w = (is_born c w || list_any (spawns c) (due 0 w)) ≡ true

module _ (l : Limits) (c : ℕ) (z : (c == 0) ≡ false) (w : List WorldEvent) (k : IsPlain l w) where
  -- an event that is no entry of the root, and no birth of c
  kept : (e : WorldEvent) → is_accepted l w e ≡ true → is_entry 0 e ≡ false → spawns c e ≡ false
      → IsComing c w → IsComing c (e ∷ w)
  kept e a o none before =
      ap (λ b. (c == 0 || (b || list_any (spawns c) w)) || list_any (spawns c) (due 0 (e ∷ w))) none
      ∙ (ap (λ b. is_born c w || b) (any_kept l w e 0 (spawns c) a o none) ∙ before)

  -- where nothing is due to the root, c is born
  born_idle : (b : Begun) → is_accepted l w (Begin 0 b) ≡ true → IsComing c w → is_born c w ≡ true
  born_idle b a before =
      let gone : due 0 w ≡ [] =
      empty_is (due 0 w) (nothing_due 0 w (idle_in_act l w 0 (Beginning b) a)).0 in
      elim (or_cases (is_born c w) (list_any (spawns c) (due 0 w)) before) [
        | inl y ↦ y
        | inr y ↦ absurd (false≢true (subst (λ ds. list_any (spawns c) ds ≡ true) gone y))
      ]

  by_root : (b : Begun) → is_accepted l w (Begin 0 b) ≡ true → is_named c (Begin 0 b ∷ w) ≡ true
      → (is_named c w ≡ true → IsComing c w) → IsComing c (Begin 0 b ∷ w)
  by_root (Async x ps) a named before =
      elim (cases_Bool (x == c)) [
        | inl e ↦
            or_right (is_born c w) (list_any (spawns c) (due 0 (Begin 0 (Async x ps) ∷ w)))
            (any_append_right (spawns c) (regs_of 0 x ps) (Finish (inner 0 w) (Spawned x) ∷ []) (rw e refl))
        | inr e ↦
            or_left (is_born c w) (list_any (spawns c) (due 0 (Begin 0 (Async x ps) ∷ w)))
            (born_idle (Async x ps) a
            (before (subst (λ b. (c == 0 || (b || list_any (names c) w)) ≡ true) e named)))
      ]
  by_root b a named before =
      or_left (is_born c w) (list_any (spawns c) (due 0 (Begin 0 b ∷ w))) (born_idle b a (before named))

  other_entry : (u : ℕ) (b : Begun) → is_plain (Begin u b) ≡ true → (u == 0) ≡ false
      → is_named c (Begin u b ∷ w) ≡ true → (is_named c w ≡ true → IsComing c w) → IsComing c (Begin u b ∷ w)
  other_entry u (Async x ps) p o named before = absurd (true≢false (sym p ∙ o))
  other_entry u b p o named before =
      ap (λ ds. is_born c w || list_any (spawns c) ds) (due_other 0 (Begin u b) w o) ∙ before named

  coming_step : (e : WorldEvent) → is_accepted l w e ≡ true → is_plain e ≡ true → is_named c (e ∷ w) ≡ true
      → (is_named c w ≡ true → IsComing c w) → IsComing c (e ∷ w)
  coming_step (Phaser m s) a p named before = kept (Phaser m s) a refl refl (before named)
  coming_step (Finish f (Spawned y)) a p named before =
      elim (cases_Bool (y == c)) [
        | inl e ↦
            or_left (is_born c (Finish f (Spawned y) ∷ w)) (list_any (spawns c) (due 0 (Finish f (Spawned y) ∷ w)))
            (or_right (c == 0) ((y == c) || list_any (spawns c) w) (or_left (y == c) (list_any (spawns c) w) e))
        | inr e ↦ kept (Finish f (Spawned y)) a refl e (before named)
      ]
  coming_step (Finish f s) a p named before = kept (Finish f s) a refl refl (before named)
  coming_step (Begin u b) a p named before =
      elim (cases_Bool (u == 0)) [
        | inl e ↦
            let root = eqb-true u 0 e in
            subst (λ v. IsComing c (Begin v b ∷ w)) (sym root)
            (by_root b (subst (λ v. is_accepted l w (Begin v b) ≡ true) root a)
            (subst (λ v. is_named c (Begin v b ∷ w) ≡ true) root named) before)
        | inr e ↦ other_entry u b p e named before
      ]
  coming_step (Refuse u b x) a p named before = absurd (false≢true p)
  coming_step (Fail u x) a p named before = absurd (false≢true p)

coming : (l : Limits) (c : ℕ) → (c == 0) ≡ false → (w : List WorldEvent) → IsPlain l w → is_named c w ≡ true
    → IsComing c w
coming l c z [] k named =
    elim (or_cases (c == 0) false named) [
      | inl y ↦ absurd (true≢false (sym y ∙ z))
      | inr y ↦ absurd (false≢true y)
    ]
coming l c z (e ∷ w) k named =
    let f = last_of_plain l e w k in
    coming_step l c z w f.before e f.accepted f.plain named (λ n. coming l c z w f.before n)

no_leave_spawns : (c : ℕ) (ds : List WorldEvent) → list_all is_leave ds ≡ true → list_any (spawns c) ds ≡ false
no_leave_spawns c [] k = refl
no_leave_spawns c (Phaser m (Drop u) ∷ ds) k = no_leave_spawns c ds k
no_leave_spawns c (Finish f Shutting ∷ ds) k = no_leave_spawns c ds k
no_leave_spawns c (Finish f (Ended u) ∷ ds) k = no_leave_spawns c ds k
no_leave_spawns c (d ∷ ds) k = absurd (false≢true k)

-- so where the root has ended, each child that was named is on its way to its end
pub all_end : (l : Limits) (w : List WorldEvent) → IsPlain l w → is_ended 0 w ≡ true → (c : ℕ) → (c == 0) ≡ false
    → is_named c w ≡ true → ends_act (last_entry c w) ≡ true
all_end l w k over c z named =
    let none : list_any (spawns c) (due 0 w) ≡ false =
    no_leave_spawns c (due 0 w)
    (leaves_only l 0 w k.legal
    (or_left (ends_act (last_entry 0 w)) (shuts_act (last_entry 0 w)) (ended_ends l 0 w k over))) in
    let born : is_born c w ≡ true =
    elim (or_cases (is_born c w) (list_any (spawns c) (due 0 w)) (coming l c z w k named)) [
      | inl y ↦ y
      | inr y ↦ absurd (true≢false (sym y ∙ none))
    ] in
    ended_ends l c w k ((ended_roots_leave_nobody l w k.legal over).0 c born)
