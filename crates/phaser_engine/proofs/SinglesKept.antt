-- What the kept single says of the history.
use Rattle.std.proofs.Common.{◌≡◌, ◌⊎◌, ℕ, ◌≤◌, ◌<◌, ◌==◌, Bool, true, false, ◌||◌, ◌&&◌, not, cond, List, [], ◌∷◌, Option, Some, None, refl, sym, ap, ◌∙◌, arith, inl, inr, subst}
use Rattle.std.specs.List.{list_any, find}
use Rattle.std.specs.Option.{option_map}
use Rattle.std.proofs.lemmas.Bool.{cases_Bool, cases_lt, eqb-true, eq-eqb, ne_eqb, and_from, and_parts, or_parts, false_from_ne_true, false≢true, not-true, cases_order}
use Rattle.phase_modes.specs.declared.limits.Limits.{Limits}
use Rattle.phase_modes.specs.Mode.{can_signal, can_single}
use Rattle.phase_model.specs.declared.history.Event.{Event}
use Rattle.phase_model.specs.declared.terms.Terms.{Terms}
use Rattle.phase_model.specs.Tasks.{is_live, has_mode}
use Rattle.phase_model.specs.Phases.{waits, signals}
use Rattle.phase_model.specs.Singles.{Proposal, proposals, is_proposed, number_of, is_mismatch, has_claimed, is_claimed, is_done, is_settled, reserve}
use Rattle.phase_model.specs.Rules.{is_legal}
use Rattle.phase_model.proofs.Legal.{implied}
use Rattle.phase_model.proofs.Proposers.{single_waits, owes, claimed_proposed}
use Rattle.phase_model.proofs.Proposals.{numbers_agree, signals_past_proposals, over_before, earlier_are_done}
use Rattle.phase_model.proofs.Closing.{settled_behind}
use Rattle.phase_model.proofs.Claims.{claimer_claims, done_is_claimed, earlier_are_claimed, one_claimer, claimed_is_proposed}
use Rattle.phase_model.proofs.Reserves.{reserve_none, reserve_open}
use Rattle.single_state.specs.declared.statement.Stage.{Stage}
use Rattle.single_state.specs.declared.statement.Stage.TheVariants.{Proposed, Claimed, Done}
use Rattle.single_state.specs.declared.statement.Statement.{Statement}
use Rattle.single_state.specs.Single.{is_open_stage, is_unclaimed, is_claim_of, number_for, may_pass, is_claimable, is_claimed_by, reserve_of, MayPropose}
use Rattle.single_state.specs.Single as single
use Rattle.phaser_engine.specs.Table.{IsAtStage, IsLast, IsLastSingle}

-- a phase with a number is proposed for
proposed_with : (p n : ℕ) (xs : List Proposal) → option_map (λ x. x.number) (find (λ x. x.phase == p) xs)
    ≡ Some n → list_any (λ x. x.phase == p) xs ≡ true
proposed_with p n [] k = absurd cc
proposed_with p n (x ∷ xs) k =
    elim (cases_Bool (x.phase == p)) [
      | inl e ↦ rw e refl
      | inr e ↦ rw e (proposed_with p n xs (rw e at k))
    ]

-- where nobody proposed for a phase, no number is another than its own
no_mismatch : (p n : ℕ) (xs : List Proposal) → list_any (λ x. x.phase == p) xs ≡ false
    → list_any (λ x. x.phase == p && not (x.number == n)) xs ≡ false
no_mismatch p n [] k = refl
no_mismatch p n (x ∷ xs) k =
    let parts = or_parts (x.phase == p) (list_any (λ y. y.phase == p) xs) k in
    rw parts.0 (no_mismatch p n xs parts.1)

same_Bool : (a b : Bool) → (a ≡ true → b ≡ true) → (b ≡ true → a ≡ true) → a ≡ b
same_Bool true b f g = sym (f refl)
same_Bool false true f g = absurd (false≢true (g refl))
same_Bool false false f g = refl

-- where p is, beside the last proposed phase
below_other : (x p : ℕ) → x < p → (x == p) ≡ false
below_other x p less = ne_eqb x p (λ e. omega (arith, e, less))

above_other : (x p : ℕ) → p < x → (x == p) ≡ false
above_other x p less = ne_eqb x p (λ e. omega (arith, e, less))

module _ (l : Limits) (terms : Terms) (h : List Event) (legal : is_legal l terms h ≡ true) where
  pub last_is_proposed : (x : Statement) → IsLast x h → is_proposed x.phase h ≡ true
  last_is_proposed x k = proposed_with x.phase x.number (proposals h) k.number

  -- the stage says whether the single was claimed, and whether it is done
  pub stage_claimed : (s : Stage) (p : ℕ) → IsAtStage s p h → is_claimed p h ≡ not (is_unclaimed s)
  stage_claimed Proposed p k = k
  stage_claimed (Claimed t) p k = claimer_claims t p h k.0
  stage_claimed (Done t) p k = done_is_claimed l terms h legal p k

  pub stage_done : (s : Stage) (p : ℕ) → IsAtStage s p h → is_done p h ≡ not (is_open_stage s)
  stage_done Proposed p k =
      false_from_ne_true (is_done p h) (λ d. false≢true (sym k ∙ done_is_claimed l terms h legal p d))
  stage_done (Claimed t) p k = k.1
  stage_done (Done t) p k = k

  -- a phase is settled where the kept single lets it pass
  pub settled_is : (o : Option Statement) (p : ℕ) → IsLastSingle o h → is_settled p h ≡ may_pass o p
  settled_is None p k = ap (λ b. not b || is_done p h) (k p)
  settled_is (Some x) p k =
      elim (cases_order x.phase p) [
        | inl e ↦
            let done : is_done p h ≡ not (is_open_stage x.stage) =
            subst (λ q. is_done q h ≡ not (is_open_stage x.stage)) e
            (stage_done x.stage x.phase k.stage) in
            let made : is_proposed p h ≡ true =
            subst (λ q. is_proposed q h ≡ true) e (last_is_proposed x k) in
            rw (made, done, eq-eqb x.phase p e) refl
        | inr (inl less) ↦ rw (k.later p less, below_other x.phase p less) refl
        | inr (inr less) ↦
            rw (above_other x.phase p less)
            (over_before l terms h legal p x.phase (last_is_proposed x k) less).settled
      ]

  -- a proposed phase is unclaimed where the kept single may be claimed for it
  pub claimable_is : (o : Option Statement) (p : ℕ) → IsLastSingle o h → is_proposed p h ≡ true
      → not (is_claimed p h) ≡ is_claimable o p
  claimable_is None p k made = absurd (false≢true (sym (k p) ∙ made))
  claimable_is (Some x) p k made =
      elim (cases_order x.phase p) [
        | inl e ↦
            let claimed : is_claimed p h ≡ not (is_unclaimed x.stage) =
            subst (λ q. is_claimed q h ≡ not (is_unclaimed x.stage)) e
            (stage_claimed x.stage x.phase k.stage) in
            rw (claimed, eq-eqb x.phase p e) (not_not (is_unclaimed x.stage))
        | inr (inl less) ↦ absurd (false≢true (sym (k.later p less) ∙ made))
        | inr (inr less) ↦
            rw (
              above_other x.phase p less,
              earlier_are_claimed l terms h legal x.phase p (last_is_proposed x k) made less,
            ) refl
      ]
    where
      not_not : (b : Bool) → not (not b) ≡ b
      not_not true = refl
      not_not false = refl

  -- a claimable phase has the kept number
  pub number_is : (o : Option Statement) (p : ℕ) → IsLastSingle o h → is_claimable o p ≡ true
      → number_of p h ≡ number_for o p
  number_is None p k c = absurd cc
  number_is (Some x) p k c =
      let same = (and_parts (x.phase == p) (is_unclaimed x.stage) c).0 in
      rw same (subst (λ q. number_of q h ≡ Some x.number) (eqb-true x.phase p same) k.number)

  -- a task's claim that isn't done is that of the last phase, and the task stands there
  pub claimer_phase : (x : Statement) (t p : ℕ) → IsLast x h → has_claimed t p h ≡ true → is_done p h ≡ false
      → x.phase ≡ p
  claimer_phase x t p k c d =
      let made : is_proposed p h ≡ true = claimed_is_proposed l terms h legal p (claimer_claims t p h c) in
      elim (cases_order x.phase p) [
        | inl e ↦ e
        | inr (inl less) ↦ absurd (false≢true (sym (k.later p less) ∙ made))
        | inr (inr less) ↦
            absurd (false≢true
            (sym d ∙ earlier_are_done l terms h legal x.phase p (last_is_proposed x k) made less))
      ]

  claim_by : (s : Stage) (t p : ℕ) → IsAtStage s p h → has_claimed t p h ≡ true → is_done p h ≡ false
      → is_claim_of t s ≡ true
  claim_by Proposed t p k c d = absurd (false≢true (sym k ∙ claimer_claims t p h c))
  claim_by (Claimed u) t p k c d = eq-eqb u t (one_claimer l terms h legal u t p k.0 c)
  claim_by (Done u) t p k c d = absurd (false≢true (sym d ∙ k))

  pub claim_stands : (s : Stage) (t p : ℕ) → IsAtStage s p h → is_claim_of t s ≡ true
      → (has_claimed t p h ≡ true) × (is_done p h ≡ false)
  claim_stands Proposed t p k c = absurd cc
  claim_stands (Claimed u) t p k c = (subst (λ v. has_claimed v p h ≡ true) (eqb-true u t c) k.0, k.1)
  claim_stands (Done u) t p k c = absurd cc

  -- the kept claimer is the task that may report
  pub claimed_by_is : (o : Option Statement) (t : ℕ) → IsLastSingle o h
      → (has_claimed t (waits t h) h && not (is_done (waits t h) h)) ≡ is_claimed_by o t
  claimed_by_is None t k =
      false_from_ne_true (has_claimed t (waits t h) h && not (is_done (waits t h) h))
      (λ e. false≢true
      (sym (k (waits t h))
      ∙ claimed_is_proposed l terms h legal (waits t h)
      (claimer_claims t (waits t h) h
      (and_parts (has_claimed t (waits t h) h) (not (is_done (waits t h) h)) e).0)))
  claimed_by_is (Some x) t k =
      let w = waits t h in
      same_Bool (has_claimed t w h && not (is_done w h)) (is_claim_of t x.stage)
      (λ e.
      let parts = and_parts (has_claimed t w h) (not (is_done w h)) e in
      let undone : is_done w h ≡ false = not-true (is_done w h) parts.1 in
      let at : x.phase ≡ w = claimer_phase x t w k parts.0 undone in
      claim_by x.stage t w (subst (λ q. IsAtStage x.stage q h) at k.stage) parts.0 undone)
      (λ e.
      let c = claim_stands x.stage t x.phase k.stage e in
      let at : w ≡ x.phase =
      (owes l terms h legal t x.phase (claimed_proposed l terms h legal t x.phase c.0) c.1).at in
      rw at (and_from (has_claimed t x.phase h) (not (is_done x.phase h)) c.0 (ap (λ b. not b) c.1)))

  -- the kept single needs as many events as the history says
  pub reserve_is : (o : Option Statement) → IsLastSingle o h → reserve h ≡ reserve_of o
  reserve_is None k = reserve_none l terms h legal (λ p. settled_is None p k)
  reserve_is (Some x) k = by_stage x.stage refl
    where
      by_stage : (s : Stage) → x.stage ≡ s → reserve h ≡ single.stage_reserve x.stage
      by_stage Proposed e =
          let at : IsAtStage Proposed x.phase h = subst (λ v. IsAtStage v x.phase h) e k.stage in
          rw e (reserve_open l terms h legal x.phase (last_is_proposed x k) (stage_done Proposed x.phase at)
          ∙ ap (λ b. cond b 1 2) at)
      by_stage (Claimed t) e =
          let at : IsAtStage (Claimed t) x.phase h = subst (λ v. IsAtStage v x.phase h) e k.stage in
          rw e (reserve_open l terms h legal x.phase (last_is_proposed x k) at.1
          ∙ ap (λ b. cond b 1 2) (claimer_claims t x.phase h at.0))
      by_stage (Done t) e =
          rw e (reserve_none l terms h legal (λ p. settled_is (Some x) p k ∙ rw e (either (x.phase == p))))
        where
          either : (b : Bool) → (not b || true) ≡ true
          either true = refl
          either false = refl

  -- the last proposed phase is not past any live signaller's
  pub last_within : (x : Statement) (t : ℕ) → IsLast x h → is_live t h ≡ true → has_mode can_signal t h ≡ true
      → x.phase ≤ signals t h
  last_within x t k live signaller =
      signals_past_proposals l terms h legal t x.phase (last_is_proposed x k) live signaller

  -- another number stands for a signaller's phase where the kept single says so
  pub mismatch_is : (o : Option Statement) (t n : ℕ) → IsLastSingle o h → is_live t h ≡ true
      → has_mode can_signal t h ≡ true
      → is_mismatch n (signals t h) h ≡ single.is_mismatch o (signals t h) n
  mismatch_is None t n k live signaller = no_mismatch (signals t h) n (proposals h) (k (signals t h))
  mismatch_is (Some x) t n k live signaller =
      let p = signals t h in
      elim (cases_Bool (x.phase == p)) [
        | inl e ↦
            rw e (numbers_agree l terms h legal x.number n p
            (subst (λ q. number_of q h ≡ Some x.number) (eqb-true x.phase p e) k.number))
        | inr e ↦
            let within : x.phase ≤ p = last_within x t k live signaller in
            let apart : x.phase ≡ p → ⊥ = λ d. false≢true (sym e ∙ eq-eqb x.phase p d) in
            let less : x.phase < p = elim (cases_lt x.phase p) [
              | inl a ↦ a
              | inr a ↦ absurd (apart (omega (arith, a, within)))
            ] in
            rw e (no_mismatch p n (proposals h) (k.later p less))
      ]

  -- a single's task that hasn't signalled its phase may propose for it
  pub may_propose : (o : Option Statement) (t : ℕ) → IsLastSingle o h → is_live t h ≡ true
      → has_mode can_signal t h ≡ true → has_mode can_single t h ≡ true
      → signals t h ≡ waits t h → MayPropose o (signals t h)
  may_propose None t k live signaller may behind = tt
  may_propose (Some x) t k live signaller may behind =
      elim (cases_lt x.phase (signals t h)) [
        | inl less ↦
            let settled : is_settled x.phase h ≡ true =
            settled_behind l terms h legal t x.phase (single_waits t h may)
            (subst (λ n. x.phase < n) behind less) in
            let done : is_done x.phase h ≡ true =
            implied (is_proposed x.phase h) (is_done x.phase h) settled (last_is_proposed x k) in
            inr (not-true (is_open_stage x.stage) (sym (stage_done x.stage x.phase k.stage) ∙ done), less)
        | inr least ↦ inl (omega (arith, least, last_within x t k live signaller))
      ]
