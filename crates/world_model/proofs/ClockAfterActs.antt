-- The clock law after a pass, after the entry that begins an act, and after one that ends a task.
use Rattle.phase_modes.specs.Lists.{is_empty}
use Rattle.std.proofs.Common.{◌≡◌, ℕ, ◌+◌, Bool, true, false, ◌&&◌, ◌||◌, ◌==◌, not, cond, List, [], ◌∷◌, Some, None, refl, sym, subst, ap, ◌∙◌, inl, inr, arith}
use Rattle.std.specs.List.{list_any}
use Rattle.std.proofs.lemmas.Bool.{and_parts, or_parts, cases_Bool, eqb-true, true≢false, false_from_ne_true}
use Rattle.phase_modes.specs.declared.limits.Limits.{Limits}
use Rattle.phase_model.specs.declared.history.Event.TheVariants.{Pass as Passed}
use Rattle.phase_model.specs.Tasks.{is_registered, is_dropped, is_live}
use Rattle.phase_model.specs.Phases.{waits}
use Rattle.world_model.specs.declared.event.Step.TheVariants.{Pass}
use Rattle.world_model.specs.declared.event.Begun.{Begun}
use Rattle.world_model.specs.declared.event.Tried.TheVariants.{Begun as Beginning}
use Rattle.world_model.specs.declared.event.WorldEvent.{WorldEvent}
use Rattle.world_model.specs.declared.event.WorldEvent.TheVariants.{Phaser, Begin}
use Rattle.world_model.specs.Parts.{phaser_past}
use Rattle.world_model.specs.Tasks.{is_born, spawns, spawner, phasers_of}
use Rattle.world_model.specs.Actors.{actor}
use Rattle.world_model.specs.Due.{is_entry, is_idle, fixed_by}
use Rattle.world_model.specs.Clock.{clock, base, is_turn}
use Rattle.world_model.specs.Replies.{is_legal_world, is_accepted}
use Rattle.world_model.specs.TaskConditions.{last_entry}
use Rattle.world_model.specs.ClockLaws.{has_passed, begins_turn, is_pass_on, leads_to_end}
use Rattle.world_model.proofs.AbleComputed.{idle_in_act}
use Rattle.world_model.proofs.OthersLeave.{last_other, clock_other}
use Rattle.world_model.proofs.ClockAfterPass.{ClockLaw, pass_row_here, pass_row_there}
use Rattle.world_model.proofs.ClockNeeds.{moved, passed_other}
use Rattle.world_model.proofs.AbruptEnds.{nothing_due, ended_after}
use Rattle.world_model.proofs.DueHolds.{passes_on, passes_fixed, pass_is_last}
use Rattle.world_model.proofs.PhasersOnce.{times, phasers_once}
use Rattle.world_model.proofs.SpawnUnderWay.{spawner_later}
use Rattle.world_model.proofs.PassesInTurns.{passing, unborn_none, registered_named}
use Rattle.world_model.proofs.ClockStays.{IsLiveOn, OfBorn, OfUnborn, Both, waits_by, live_by, not_passed}
use Rattle.world_model.proofs.ClockOfChild.{spawn_no_turn, spawn_of, no_idle_spawner}
use Rattle.world_model.proofs.SmallWords.{eq_self}

some_pass : (n : ℕ) (ds : List WorldEvent) → passes_on n ds ≡ 1 → list_any (is_pass_on n) ds ≡ true
some_pass n ds e =
    elim (cases_Bool (list_any (is_pass_on n) ds)) [
      | inl x ↦ x
      | inr x ↦ absurd (none_at (passes_on n ds) (nothing_counted n ds x) e)
    ]
  where
    none_at : (x : ℕ) → x ≡ 0 → x ≡ 1 → ⊥
    none_at x y z = omega arith

    nothing_counted : (n : ℕ) (ds : List WorldEvent) → list_any (is_pass_on n) ds ≡ false → passes_on n ds ≡ 0
    nothing_counted n [] x = refl
    nothing_counted n (d ∷ ds) x =
        let p = or_parts (is_pass_on n d) (list_any (is_pass_on n) ds) x in
        ap (λ b. cond b (passes_on n ds + 1) (passes_on n ds)) p.0 ∙ nothing_counted n ds p.1

module _ (l : Limits) (w : List WorldEvent) (k : is_legal_world l w ≡ true) (before : Both w) where
  -- a task passes
  module _ (m u : ℕ) (h : is_accepted l w (Phaser m (Pass u)) ≡ true) where
    abbrev going : WorldEvent
    going = Phaser m (Pass u)

    live_pass : (t n : ℕ) → IsLiveOn t n (going ∷ w) → IsLiveOn t n w
    live_pass t n a = live_by (m == n) t (Passed u) (phaser_past n w) (λ x. x) a

    waits_pass : (t n : ℕ) → (u == t) ≡ false
        → waits t (phaser_past n (going ∷ w)) ≡ waits t (phaser_past n w)
    waits_pass t n e =
        waits_by (m == n) t (Passed u) (phaser_past n w)
        (ap (λ b. cond b (waits t (phaser_past n w) + 1) (waits t (phaser_past n w))) e)

    own_pass : (n : ℕ) → OfBorn u n (going ∷ w)
    own_pass n a b d =
        let p = passing l w m u k h in
        let once = pass_is_last l u m w p.rest k p.turn p.here in
        let law : ClockLaw u n w = before.0 u n (live_pass u n a) b d in
        elim (cases_Bool (m == n)) [
          | inl e ↦
              subst (λ v. ClockLaw u v (going ∷ w)) (eqb-true m n e) (pass_row_here u m w p.rest p.turn p.here
              once (subst (λ v. ClockLaw u v w) (sym (eqb-true m n e)) law))
          | inr e ↦ pass_row_there u m w p.rest p.turn p.here once n e law
        ]

    pass_born : (t n : ℕ) → OfBorn t n (going ∷ w)
    pass_born t n =
        elim (cases_Bool (u == t)) [
          | inl e ↦ subst (λ v. OfBorn v n (going ∷ w)) (eqb-true u t e) (own_pass n)
          | inr e ↦
              λ a b d. moved t n going w (waits_pass t n e) refl (clock_other t going w e refl)
              (passed_other t n going w e) (before.0 t n (live_pass t n a) b d)
        ]

    pass_unborn : (t n : ℕ) → OfUnborn t n (going ∷ w)
    pass_unborn t n a b d =
        let p = passing l w m u k h in
        let a' = live_pass t n a in
        let not_child : (u == t) ≡ false =
        false_from_ne_true (u == t) (λ e. true≢false (sym p.turn ∙ ap begins_turn
        (subst (λ v. last_entry v w ≡ None) (sym (eqb-true u t e)) (unborn_none l t w k b)))) in
        let not_spawner : (u == spawner t w) ≡ false =
        false_from_ne_true (u == spawner t w) (λ e. true≢false (sym p.turn
        ∙ subst (λ v. begins_turn (last_entry v w) ≡ false) (sym (eqb-true u (spawner t w) e))
        (spawn_no_turn t (last_entry (spawner t w) w) (spawn_of l w k t n a' b d).0))) in
        rw (waits_pass t n not_child, clock_other (spawner t w) going w not_spawner refl)
        (before.1 t n a' b d)

    pub after_pass : Both (going ∷ w)
    after_pass = (pass_born, pass_unborn)

  idle_not_ending : (t : ℕ) → is_idle t w ≡ true → leads_to_end (last_entry t w) ≡ false
  idle_not_ending t i =
      false_from_ne_true (leads_to_end (last_entry t w))
      (λ s. true≢false (sym (ended_after l t w k s (nothing_due t w i).0) ∙ (nothing_due t w i).1))

  -- an act is begun
  module _ (u : ℕ) (y : Begun) (h : is_accepted l w (Begin u y) ≡ true) where
    abbrev starting : WorldEvent
    starting = Begin u y

    starter_idle : is_idle u w ≡ true
    starter_idle = idle_in_act l w u (Beginning y) h

    once_on : (n : ℕ) → IsLiveOn u n w → times n (phasers_of u w) ≡ 1
    once_on n a = phasers_once l w k u n ∙ ap (λ b. cond b 1 0) a

    not_empty_by : (n : ℕ) (ns : List ℕ) → times n ns ≡ 1 → is_empty ns ≡ false
    not_empty_by n [] e = absurd (no e)
      where
        no : ◌≡◌ {A = ℕ} 0 1 → ⊥
        no x = omega arith
    not_empty_by n (x ∷ xs) e = refl

    passed_start : (n : ℕ) → IsLiveOn u n w → has_passed u n (starting ∷ w) ≡ false
    passed_start n a =
        rw (eq_self u)
        (elim (cases_Bool (is_turn y)) [
          | inl e ↦
              ap (λ b. is_turn y && not (is_empty (fixed_by u y w)) && not b)
              (some_pass n (fixed_by u y w) (passes_fixed u n y w e ∙ once_on n a))
              ∙ false_at (is_turn y && not (is_empty (fixed_by u y w)))
          | inr e ↦
              ap (λ b. b && not (is_empty (fixed_by u y w)) && not (list_any (is_pass_on n) (fixed_by u y w)))
              e
        ])
      where
        false_at : (b : Bool) → (b && false) ≡ false
        false_at true = refl
        false_at false = refl

    clock_start : (n : ℕ) → IsLiveOn u n w → clock u (starting ∷ w) ≡ clock u w
    clock_start n a =
        ap (λ b. cond ((u == u) && is_turn y && b) (clock u w + 1) (clock u w))
        (not_empty_by n (phasers_of u w) (once_on n a))
        ∙ ap (λ b. cond b (clock u w + 1) (clock u w)) (false_at ((u == u) && is_turn y))
      where
        false_at : (b : Bool) → (b && false) ≡ false
        false_at true = refl
        false_at false = refl

    own_start : (n : ℕ) → OfBorn u n (starting ∷ w)
    own_start n a b d =
        let law : ClockLaw u n w = before.0 u n a b (idle_not_ending u starter_idle) in
        moved u n starting w refl refl (clock_start n a)
        (passed_start n a ∙ sym (not_passed w u n (nothing_due u w starter_idle).0)) law

    start_born : (t n : ℕ) → OfBorn t n (starting ∷ w)
    start_born t n =
        elim (cases_Bool (u == t)) [
          | inl e ↦ subst (λ v. OfBorn v n (starting ∷ w)) (eqb-true u t e) (own_start n)
          | inr e ↦ λ a b d.
              moved t n starting w refl refl (clock_other t starting w e refl) (passed_other t n starting w e)
              (before.0 t n a b (ap leads_to_end (sym (last_other t starting w e)) ∙ d))
        ]

    start_unborn : (t n : ℕ) → OfUnborn t n (starting ∷ w)
    start_unborn t n a b d =
        let named =
        registered_named l t n w k
        (and_parts (is_registered t (phaser_past n w)) (not (is_dropped t (phaser_past n w))) a).0 in
        let same : spawner t (starting ∷ w) ≡ spawner t w = spawner_later l t starting w h named in
        let q = spawner t w in
        let not_own : (u == q) ≡ false =
        false_from_ne_true (u == q) (λ e.
        let idle : is_idle q w ≡ true = subst (λ v. is_idle v w ≡ true) (eqb-true u q e) starter_idle in
        no_idle_spawner l w k t n a b (idle_not_ending q idle) idle) in
        let d' : leads_to_end (last_entry q w) ≡ false =
        ap leads_to_end (sym (last_other q starting w not_own))
        ∙ subst (λ v. leads_to_end (last_entry v (starting ∷ w)) ≡ false) same d in
        before.1 t n a b d'
        ∙ sym (ap (λ v. clock v (starting ∷ w)) same ∙ clock_other q starting w not_own refl)

    pub after_begin : Both (starting ∷ w)
    after_begin = (start_born, start_unborn)

  -- a task ends abruptly
  module _ (u : ℕ) (e : WorldEvent) (by : actor w e ≡ u) (leads : leads_to_end (Some e) ≡ true)
      (own : is_entry u e ≡ true)
      (past_same : (n : ℕ) → phaser_past n (e ∷ w) ≡ phaser_past n w) (base_same : (n : ℕ)
      → base n (e ∷ w) ≡ base n w) (spawner_same : (t : ℕ) → spawner t (e ∷ w) ≡ spawner t w)
      (births : (t : ℕ) → spawns t e ≡ false) where
    ends_now : (t : ℕ) → (u == t) ≡ true → leads_to_end (last_entry t (e ∷ w)) ≡ true
    ends_now t x = subst (λ v. leads_to_end (last_entry v (e ∷ w)) ≡ true) (eqb-true u t x) (rw own leads)

    other : (t : ℕ) → (u == t) ≡ false → (actor w e == t) ≡ false
    other t x = ap (λ v. v == t) by ∙ x

    unborn_still : (t : ℕ) → is_born t (e ∷ w) ≡ is_born t w
    unborn_still t = ap (λ b. (t == 0) || (b || list_any (spawns t) w)) (births t)

    abrupt_born : (t n : ℕ) → OfBorn t n (e ∷ w)
    abrupt_born t n a b d =
        elim (cases_Bool (u == t)) [
          | inl x ↦ absurd (true≢false (sym (ends_now t x) ∙ d))
          | inr x ↦
              let o = other t x in
              moved t n e w (ap (waits t) (past_same n)) (base_same n) (clock_other t e w o (births t))
              (passed_other t n e w o)
              (before.0 t n (subst (λ g. is_live t g ≡ true) (past_same n) a) (sym (unborn_still t) ∙ b)
              (ap leads_to_end (sym (last_other t e w o)) ∙ d))
        ]

    abrupt_unborn : (t n : ℕ) → OfUnborn t n (e ∷ w)
    abrupt_unborn t n a b d =
        let q = spawner t w in
        let d1 : leads_to_end (last_entry q (e ∷ w)) ≡ false =
        subst (λ v. leads_to_end (last_entry v (e ∷ w)) ≡ false) (spawner_same t) d in
        elim (cases_Bool (u == q)) [
          | inl x ↦ absurd (true≢false (sym (ends_now q x) ∙ d1))
          | inr x ↦
              let o = other q x in
              let law =
              before.1 t n (subst (λ g. is_live t g ≡ true) (past_same n) a) (sym (unborn_still t) ∙ b)
              (ap leads_to_end (sym (last_other q e w o)) ∙ d1) in
              ap (λ g. waits t g + base n (e ∷ w)) (past_same n)
              ∙ (ap (λ x. waits t (phaser_past n w) + x) (base_same n) ∙ (law
              ∙ sym (ap (λ v. clock v (e ∷ w)) (spawner_same t) ∙ clock_other q e w o (births q))))
        ]

    pub abrupt : Both (e ∷ w)
    abrupt = (abrupt_born, abrupt_unborn)
