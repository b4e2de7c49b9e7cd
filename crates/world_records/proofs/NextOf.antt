-- The event that comes next is a pass, a claim or a report only where the plan is to pass.
use Rattle.std.proofs.Common.{◌≡◌, ℕ, ◌==◌, Bool, true, false, ◌&&◌, not, cond, List, [], ◌∷◌, ◌++◌, map, drop, Option, refl, sym, ◌∙◌}
use Rattle.std.specs.Prelude.{slice_get, option_map}
use Rattle.std.specs.Option.{option_map_or}
use Rattle.std.proofs.lemmas.Bool.{and_right}
use Rattle.phase_modes.specs.declared.reg.Mode.{Mode}
use Rattle.phase_modes.specs.declared.limits.Limits.{Limits}
use Rattle.phase_modes.specs.declared.phased.Pair.{Pair}
use Rattle.finish_core.specs.declared.event.FinishEvent.TheVariants.{Spawned, Ended, Shut as Shutting}
use Rattle.world_model.specs.declared.event.Step.{Step}
use Rattle.world_model.specs.declared.event.Step.TheVariants.{Reg, Sig, Claim, Did, Pass, Drop}
use Rattle.world_model.specs.declared.event.WorldEvent.{WorldEvent}
use Rattle.world_model.specs.declared.event.WorldEvent.TheVariants.{Phaser, Finish}
use Rattle.world_records.specs.declared.plan.Plan.{Plan}
use Rattle.world_records.specs.declared.plan.Plan.TheVariants as plan
use Rattle.world_records.specs.TaskState.{TaskState}
use Rattle.world_model.specs.Due.{or_single}
use Rattle.world_model.specs.Continuing.{same_event, same_step}
use Rattle.world_records.specs.StandsFor.{due_by, inner_of, end_of}
use Rattle.world_records.specs.Plans.{has_left}

-- the first event due is this step on phaser n
abbrev pub is_next : Limits → List WorldEvent → List WorldEvent → ℕ → Step → Bool
is_next l w ds n s = option_map_or (λ d. same_event d (Phaser n s)) (option_map (or_single l w) (slice_get ds 0)) false

-- a step that is no signal, registration or drop
pub record IsOfTurn (s : Step) : Type 0 where
  pub no_drop : (u : ℕ) → same_step (Drop u) s ≡ false
  pub no_reg : (q c : ℕ) (m : Mode) → same_step (Reg q c m) s ≡ false
  pub no_signal : (u : ℕ) (y : Option ℕ) → same_step (Sig u y) s ≡ false

module _ (l : Limits) (w : List WorldEvent) (n : ℕ) (s : Step) (q : IsOfTurn s) where
  no_drops : (rest : List WorldEvent) (u : ℕ) (ns : List ℕ) → is_next l w rest n s ≡ false → is_next l w (map (λ m. Phaser m (Drop u)) ns ++ rest) n s ≡ false
  no_drops rest u [] e = e
  no_drops rest u (m ∷ ns) e = and_right (m == n) _ (q.no_drop u)

  no_regs : (rest : List WorldEvent) (u c : ℕ) (ps : List Pair) → is_next l w rest n s ≡ false → is_next l w (map (λ p. Phaser p.phaser (Reg u c p.mode)) ps ++ rest) n s ≡ false
  no_regs rest u c [] e = e
  no_regs rest u c (p ∷ ps) e = and_right (p.phaser == n) _ (q.no_reg u c p.mode)

  no_shuts : (u : ℕ) (k : TaskState) (fs : List ℕ) → is_next l w (map (λ f. Finish f Shutting) fs ++ end_of u k ∷ []) n s ≡ false
  no_shuts u k [] = elim (u == 0) as (λ b. is_next l w (cond b (Finish 0 Shutting) (Finish k.home (Ended u)) ∷ []) n s ≡ false) [ true ↦ refl | false ↦ refl ]
  no_shuts u k (f ∷ fs) = refl

  -- what is next where the plan isn't to pass
  pub other_plan : (t : ℕ) (k : TaskState) (fs : List ℕ) (p : Plan) (left : List ℕ) → (p ≡ plan.Turning → ⊥) → k.left ≡ left → has_left p left ≡ true → is_next l w (due_by t k fs p) n s ≡ false
  other_plan t k fs plan.Idle left r e h = refl
  other_plan t k fs (plan.Signalling y turn) [] r e h = absurd cc
  other_plan t k fs (plan.Signalling y turn) (m ∷ ms) r e h = rw e (and_right (m == n) _ (q.no_signal t y))
  other_plan t k fs plan.Turning left r e h = absurd (r refl)
  other_plan t k fs (plan.Spawning c pairs made) left r e h = no_regs (Finish (inner_of k fs) (Spawned c) ∷ []) t c (drop made pairs) refl
  other_plan t k fs plan.Shutting left r e h = no_drops (Finish (inner_of k fs) Shutting ∷ []) t k.left refl
  other_plan t k fs (plan.Ending c) left r e h =
      no_drops (map (λ m. Phaser m (Drop t)) k.phasers ++ (map (λ f. Finish f Shutting) fs ++ end_of t k ∷ [])) c k.left
      (no_drops (map (λ f. Finish f Shutting) fs ++ end_of t k ∷ []) t k.phasers (no_shuts t k fs))

-- which of the three comes where a pass is due
pub pass_by : (b c : Bool) (m n t : ℕ) (p q : Bool) → (m == n) ≡ p → (t == t) ≡ q → q ≡ true
    → same_event (cond b (Phaser m (Claim t)) (cond c (Phaser m (Did t)) (Phaser m (Pass t)))) (Phaser n (Pass t)) ≡ (p && not b && not c)
pass_by true c m n t p q e f g = and_right (m == n) false refl ∙ sym (never_mid p c)
  where
    never_mid : (p c : Bool) → (p && false && not c) ≡ false
    never_mid true c = refl
    never_mid false c = refl
pass_by false true m n t p q e f g = and_right (m == n) false refl ∙ sym (never_end p)
  where
    never_end : (p : Bool) → (p && true && false) ≡ false
    never_end true = refl
    never_end false = refl
pass_by false false m n t p q e f g = rw (e, f, g) (plain p)
  where
    plain : (p : Bool) → (p && true) ≡ (p && true && true)
    plain true = refl
    plain false = refl

pub claim_by : (b c : Bool) (m n t : ℕ) (p q : Bool) → (m == n) ≡ p → (t == t) ≡ q → q ≡ true
    → same_event (cond b (Phaser m (Claim t)) (cond c (Phaser m (Did t)) (Phaser m (Pass t)))) (Phaser n (Claim t)) ≡ (p && b)
claim_by true c m n t p q e f g = rw (e, f, g) refl
claim_by false true m n t p q e f g = and_right (m == n) false refl ∙ sym (and_right p false refl)
claim_by false false m n t p q e f g = and_right (m == n) false refl ∙ sym (and_right p false refl)

pub report_by : (b c : Bool) (m n t : ℕ) (p q : Bool) → (m == n) ≡ p → (t == t) ≡ q → q ≡ true
    → same_event (cond b (Phaser m (Claim t)) (cond c (Phaser m (Did t)) (Phaser m (Pass t)))) (Phaser n (Did t)) ≡ (p && not b && c)
report_by true c m n t p q e f g = and_right (m == n) false refl ∙ sym (never_mid p c)
  where
    never_mid : (p c : Bool) → (p && false && c) ≡ false
    never_mid true c = refl
    never_mid false c = refl
report_by false true m n t p q e f g = rw (e, f, g) (plain p)
  where
    plain : (p : Bool) → (p && true) ≡ (p && true && true)
    plain true = refl
    plain false = refl
report_by false false m n t p q e f g = and_right (m == n) false refl ∙ sym (and_right (p && true) false refl)
