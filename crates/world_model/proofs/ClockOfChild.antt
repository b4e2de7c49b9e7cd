-- The clock law after a registration and after a birth: a child stands where its spawner does.
use Rattle.phase_modes.specs.Lists.{is_empty}
use Rattle.std.proofs.Common.{◌≡◌, ℕ, ◌+◌, true, false, ◌&&◌, ◌||◌, ◌==◌, not, cond, List, ◌∷◌, Option, Some, None, refl, sym, subst, ap, ◌∙◌, inl, inr, arith}
use Rattle.std.specs.List.{list_any}
use Rattle.std.proofs.lemmas.Bool.{and_parts, or_from, or_parts, cases_Bool, eqb-true, true≢false, false_from_ne_true}
use Rattle.phase_modes.specs.declared.reg.Mode.{Mode}
use Rattle.phase_modes.specs.declared.limits.Limits.{Limits}
use Rattle.phase_model.specs.declared.history.Event.TheVariants.{Reg as Registered}
use Rattle.phase_model.specs.Tasks.{is_registered, is_dropped, is_live}
use Rattle.phase_model.specs.Phases.{waits}
use Rattle.phase_model.specs.Rules.{is_permitted, has_room}
use Rattle.phase_model.proofs.Legal.{reg_follows}
use Rattle.finish_core.specs.declared.event.FinishEvent.TheVariants.{Spawned}
use Rattle.world_model.specs.declared.event.Step.TheVariants.{Reg}
use Rattle.world_model.specs.declared.event.Begun.TheVariants.{Async}
use Rattle.world_model.specs.declared.event.WorldEvent.{WorldEvent}
use Rattle.world_model.specs.declared.event.WorldEvent.TheVariants.{Phaser, Finish, Begin}
use Rattle.world_model.specs.Parts.{terms_of, phaser_past}
use Rattle.world_model.specs.Tasks.{is_born, spawns, spawner}
use Rattle.world_model.specs.Due.{due, is_entry, is_idle}
use Rattle.world_model.specs.Clock.{clock, base}
use Rattle.world_model.specs.Replies.{is_legal_world, is_accepted}
use Rattle.world_model.specs.TaskConditions.{last_entry}
use Rattle.world_model.specs.ClockLaws.{has_passed, begins_turn, is_pass_on, leads_to_end}
use Rattle.world_model.proofs.MadeMeans.{part_made}
use Rattle.world_model.proofs.PhasersLegal.{step_allowed}
use Rattle.world_model.proofs.ClockAfterPass.{ClockLaw}
use Rattle.world_model.proofs.ClockNeeds.{moved, passed_part}
use Rattle.world_model.proofs.AbruptEnds.{nothing_due, half_spawned}
use Rattle.world_model.proofs.BornWhereNamed.{birth, registering, unborn_child}
use Rattle.world_model.proofs.SpawnUnderWay.{begins_spawn, named_by_spawn}
use Rattle.world_model.proofs.PassesInTurns.{unborn_none, registered_named}
use Rattle.world_model.proofs.ClockStays.{IsLiveOn, OfBorn, OfUnborn, Both, waits_by, live_by}
use Rattle.world_model.proofs.SmallWords.{eq_self}

-- a spawn is no turn, and doesn't lead to the end
pub spawn_no_turn : (c : ℕ) (o : Option WorldEvent) → begins_spawn c o ≡ true → begins_turn o ≡ false
spawn_no_turn c None s = absurd cc
spawn_no_turn c (Some (Begin u (Async x ps))) s = refl
spawn_no_turn c (Some d) s = absurd cc

pub spawn_no_end : (c : ℕ) (o : Option WorldEvent) → begins_spawn c o ≡ true → leads_to_end o ≡ false
spawn_no_end c None s = absurd cc
spawn_no_end c (Some (Begin u (Async x ps))) s = refl
spawn_no_end c (Some d) s = absurd cc

module _ (l : Limits) (w : List WorldEvent) (k : is_legal_world l w ≡ true) where
  -- a child that isn't born is in a spawn that goes on, or was given up
  pub spawn_of : (t n : ℕ) → IsLiveOn t n w → is_born t w ≡ false
      → leads_to_end (last_entry (spawner t w) w) ≡ false
      → (begins_spawn t (last_entry (spawner t w) w) ≡ true) × (is_empty (due (spawner t w) w) ≡ false)
  spawn_of t n a b c =
      let named =
      registered_named l t n w k
      (and_parts (is_registered t (phaser_past n w)) (not (is_dropped t (phaser_past n w))) a).0 in
      elim (half_spawned l t w k named b) [ inl x ↦ x | inr x ↦ absurd (true≢false (sym x ∙ c)) ]

  pub no_idle_spawner : (t n : ℕ) → IsLiveOn t n w → is_born t w ≡ false
      → leads_to_end (last_entry (spawner t w) w) ≡ false → is_idle (spawner t w) w ≡ true → ⊥
  no_idle_spawner t n a b c i = true≢false (sym (nothing_due (spawner t w) w i).0 ∙ (spawn_of t n a b c).1)

no_turn_of_none : (w : List WorldEvent) (t n : ℕ) (e : WorldEvent) → is_entry t e ≡ false
    → last_entry t w ≡ None → has_passed t n (e ∷ w) ≡ false
no_turn_of_none w t n e x o = rw (x, o) refl

plus_zero : (x : ℕ) → x ≡ x + 0
plus_zero x = omega arith

module _ (l : Limits) (w : List WorldEvent) (k : is_legal_world l w ≡ true) (before : Both w) where
  -- a child is registered
  module _ (m q c : ℕ) (mode : Mode) (h : is_accepted l w (Phaser m (Reg q c mode)) ≡ true) where
    abbrev joining : WorldEvent
    joining = Phaser m (Reg q c mode)

    abbrev begun : begins_spawn c (last_entry q w) ≡ true
    begun = (registering l w m q c mode k h).begun

    child_unborn : is_born c w ≡ false
    child_unborn =
        unborn_child l q c w k (registering l w m q c mode k h).begun
        (ap (λ ds. is_empty ds) (registering l w m q c mode k h).here)

    spawned_by : spawner c w ≡ q
    spawned_by = (named_by_spawn l q c w k (registering l w m q c mode k h).begun).1

    parent_born : is_born q w ≡ true
    parent_born =
        elim (cases_Bool (is_born q w)) [
          | inl b ↦ b
          | inr b ↦
              absurd (true≢false (sym (registering l w m q c mode k h).begun
              ∙ ap (begins_spawn c) (unborn_none l q w k b)))
        ]

    parent_live : IsLiveOn q m w
    parent_live =
        let g = phaser_past m w in
        (reg_follows l (terms_of m w) g q c mode
        (and_parts (is_permitted l (terms_of m w) g (Registered q c mode))
        (has_room l (Registered q c mode ∷ g)) (step_allowed l w m (Reg q c mode) h)).0).parent_live

    passed_reg : (t n : ℕ) → has_passed t n (joining ∷ w) ≡ has_passed t n w
    passed_reg t n = passed_part l t n joining w refl (part_made l w joining h).0 refl

    -- another task than the child
    live_reg : (t n : ℕ) → (c == t) ≡ false → IsLiveOn t n (joining ∷ w) → IsLiveOn t n w
    live_reg t n e a =
        live_by (m == n) t (Registered q c mode) (phaser_past n w) (λ x.
        subst (λ b. ((b || is_registered t (phaser_past n w)) && not (is_dropped t (phaser_past n w)))
        ≡ true) e x) a

    waits_reg : (t n : ℕ) → (c == t) ≡ false
        → waits t (phaser_past n (joining ∷ w)) ≡ waits t (phaser_past n w)
    waits_reg t n e =
        waits_by (m == n) t (Registered q c mode) (phaser_past n w)
        (ap (λ b. waits (cond b q t) (phaser_past n w)) e)

    reg_born : (t n : ℕ) → OfBorn t n (joining ∷ w)
    reg_born t n a b d =
        elim (cases_Bool (c == t)) [
          | inl e ↦
              absurd (true≢false (sym b ∙ subst (λ v. is_born v w ≡ false) (eqb-true c t e) child_unborn))
          | inr e ↦
              moved t n joining w (waits_reg t n e) refl refl (passed_reg t n)
              (before.0 t n (live_reg t n e a) b d)
        ]

    joined_law : waits q (phaser_past m w) + base m w ≡ clock q w
    joined_law =
        let o = last_entry q w in
        let law : ClockLaw q m w =
        before.0 q m parent_live parent_born (spawn_no_end c o (registering l w m q c mode k h).begun) in
        let none : has_passed q m w ≡ false =
        ap (λ b. b && not (is_empty (due q w)) && not (list_any (is_pass_on m) (due q w)))
        (spawn_no_turn c o (registering l w m q c mode k h).begun) in
        law ∙ (ap (λ b. clock q w + cond b 1 0) none ∙ plus_zero (clock q w))
      where
        plus_zero : (x : ℕ) → x + 0 ≡ x
        plus_zero x = omega arith

    child_here : OfUnborn c m (joining ∷ w)
    child_here a b d = rw (eq_self m, eq_self c, spawned_by) joined_law

    child_there : (n : ℕ) → (m == n) ≡ false → OfUnborn c n (joining ∷ w)
    child_there n e a b d =
        rw e (before.1 c n (subst (λ x. is_live c
        (cond x (Registered q c mode ∷ phaser_past n w) (phaser_past n w)) ≡ true) e a) b d)

    reg_unborn : (t n : ℕ) → OfUnborn t n (joining ∷ w)
    reg_unborn t n =
        elim (cases_Bool (c == t)) [
          | inl e ↦
              subst (λ v. OfUnborn v n (joining ∷ w)) (eqb-true c t e)
              (elim (cases_Bool (m == n)) [
                | inl g ↦ subst (λ v. OfUnborn c v (joining ∷ w)) (eqb-true m n g) child_here
                | inr g ↦ child_there n g
              ])
          | inr e ↦ λ a b d. rw (waits_reg t n e) (before.1 t n (live_reg t n e a) b d)
        ]

    pub after_reg : Both (joining ∷ w)
    after_reg = (reg_born, reg_unborn)

  -- a child is born
  module _ (f c : ℕ) (h : is_accepted l w (Finish f (Spawned c)) ≡ true) where
    abbrev bearing : WorldEvent
    bearing = Finish f (Spawned c)

    bearing_begun : begins_spawn c (last_entry (spawner c w) w) ≡ true
    bearing_begun = (birth l w f c k h).0

    bearing_unborn : is_born c w ≡ false
    bearing_unborn =
        unborn_child l (spawner c w) c w k (birth l w f c k h).0
        (ap (λ ds. is_empty ds) (birth l w f c k h).1)

    passed_birth : (t n : ℕ) → has_passed t n (bearing ∷ w) ≡ has_passed t n w
    passed_birth t n = passed_part l t n bearing w refl (part_made l w bearing h).0 refl

    clock_birth : (t : ℕ) → (c == t) ≡ false → clock t (bearing ∷ w) ≡ clock t w
    clock_birth t e = ap (λ b. cond b (clock (spawner t w) w) (clock t w)) e

    new_born : (n : ℕ) → OfBorn c n (bearing ∷ w)
    new_born n a b d =
        let law = before.1 c n a bearing_unborn (spawn_no_end c (last_entry (spawner c w) w) bearing_begun) in
        let none : has_passed c n (bearing ∷ w) ≡ false =
        no_turn_of_none w c n bearing refl (unborn_none l c w k bearing_unborn) in
        rw (none, eq_self c) (law ∙ plus_zero (clock (spawner c w) w))

    birth_born : (t n : ℕ) → OfBorn t n (bearing ∷ w)
    birth_born t n =
        elim (cases_Bool (c == t)) [
          | inl e ↦ subst (λ v. OfBorn v n (bearing ∷ w)) (eqb-true c t e) (new_born n)
          | inr e ↦
              λ a b d. moved t n bearing w refl refl (clock_birth t e) (passed_birth t n)
              (before.0 t n a (subst (λ x. ((t == 0) || (x || list_any (spawns t) w)) ≡ true) e b) d)
        ]

    birth_unborn : (t n : ℕ) → OfUnborn t n (bearing ∷ w)
    birth_unborn t n a b d =
        let p = or_parts (t == 0) ((c == t) || list_any (spawns t) w) b in
        let b' : is_born t w ≡ false =
        or_from (t == 0) (list_any (spawns t) w) p.0 (or_parts (c == t) (list_any (spawns t) w) p.1).1 in
        let not_spawner : (c == spawner t w) ≡ false =
        false_from_ne_true (c == spawner t w) (λ e.
        true≢false (sym (spawn_of l w k t n a b' d).0
        ∙ ap (begins_spawn t) (subst (λ v. last_entry v w ≡ None) (eqb-true c (spawner t w) e)
        (unborn_none l c w k bearing_unborn)))) in
        before.1 t n a b' d ∙ sym (clock_birth (spawner t w) not_spawner)

    pub after_birth : Both (bearing ∷ w)
    after_birth = (birth_born, birth_unborn)
