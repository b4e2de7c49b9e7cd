-- How many claims and reports of a phase there were, read off what is remembered.
use Rattle.std.proofs.Common.{◌≡◌, ℕ, ◌+◌, ◌<◌, ◌≤◌, ◌==◌, ◌&&◌, Bool, true, false, cond, eqb, ltb, not, is_some, List, [], ◌∷◌, Option, Some, None, inl, inr, refl, sym, ◌∙◌, arith}
use Rattle.std.proofs.lemmas.Bool.{cases_Bool, and_parts, eqb-true, eq-eqb, false≢true}
use Rattle.std.proofs.lemmas.Bool.Decides.{nat_tests}
use Rattle.single_state.specs.declared.statement.Stage.{Stage}
use Rattle.single_state.specs.declared.statement.Stage.TheVariants.{Proposed, Claimed, Done}
use Rattle.single_state.specs.declared.statement.Statement.{Statement}
use Rattle.single_state.specs.Single.{number_for, is_claimable, is_claimed_by, is_unclaimed, is_claim_of, is_mismatch, proposed, claimed, done, MayPropose}
use Rattle.single_state.specs.Laws.{Change, proposal, claim, report, remembered, AreInOrder, claims_phase, reports_phase, count_ok}

-- one for each phase before u, n for u, and none for a later phase
abbrev level : ℕ → ℕ → ℕ → ℕ
level u n p = cond (ltb p u) 1 (cond (eqb u p) n 0)

-- how many claims have come at a stage
abbrev claims_at : Stage → ℕ
claims_at Proposed = 0
claims_at (Claimed t) = 1
claims_at (Done t) = 1

-- how many reports have come at a stage
abbrev reports_at : Stage → ℕ
reports_at Proposed = 0
reports_at (Claimed t) = 0
reports_at (Done t) = 1

-- how many there may have been of phase p
abbrev bound : (Stage → ℕ) → Option Statement → ℕ → ℕ
bound m None p = 0
bound m (Some x) p = level x.phase (m x.stage) p

-- a later phase starts with none
level_later : (u v p k n o : ℕ) → n ≤ 1 → u < v → k ≤ level u n p → k ≤ level v o p
level_later u v p k n o few later h = grind (arith, nat_tests)

-- one more for the phase itself
level_more : (u p k : ℕ) → k ≤ level u 0 p → cond (eqb u p) 1 0 + k ≤ level u 1 p
level_more u p k h = grind (arith, nat_tests)

level_few : (u n p : ℕ) → n ≤ 1 → level u n p ≤ 1
level_few u n p few = grind (arith, nat_tests)

-- a refused call changes nothing and isn't counted
counted : (m : Stage → ℕ) (s new : Option Statement) (p k : ℕ) (ok test : Bool)
    → (ok ≡ true → cond test 1 0 + k ≤ bound m new p) → k ≤ bound m s p
    → cond (ok && test) 1 0 + k ≤ bound m (cond ok new s) p
counted m s new p k true test made kept = made refl
counted m s new p k false test made kept = omega (arith, kept)

-- a proposal in order leaves room for what was counted
after_proposal : (m : Stage → ℕ) → ((g : Stage) → m g ≤ 1) → (s : Option Statement) (q n p k : ℕ)
    → MayPropose s q → k ≤ bound m s p → 0 + k ≤ bound m (proposed s q n) p
after_proposal m few None q n p k may h = omega (arith, h)
after_proposal m few (Some x) q n p k may h = elim (cases_Bool (x.phase == q)) [
  | inl e ↦ rw e (omega (arith, h))
  | inr e ↦
      let kept : k ≤ level q (m Proposed) p = elim may [
        | inl same ↦ absurd (false≢true (sym e ∙ eq-eqb x.phase q same))
        | inr later ↦ level_later x.phase q p k (m x.stage) (m Proposed) (few x.stage) later.1 h
      ] in
      rw e (omega (arith, kept))
]

-- a claim that is answered Ok is the first of its phase
claim_of_claims : (u : ℕ) (g : Stage) (q p k : ℕ) → (u == q && is_unclaimed g) ≡ true
    → k ≤ level u (claims_at g) p → cond (q == p) 1 0 + k ≤ level u 1 p
claim_of_claims u Proposed q p k ok h =
    let same : q ≡ u = sym (eqb-true u q (and_parts (u == q) true ok).0) in
    rw same (level_more u p k h)
claim_of_claims u (Claimed t) q p k ok h = absurd (false≢true (and_parts (u == q) false ok).1)
claim_of_claims u (Done t) q p k ok h = absurd (false≢true (and_parts (u == q) false ok).1)

-- it is no report
claim_of_reports : (u : ℕ) (g : Stage) (q p k : ℕ) → (u == q && is_unclaimed g) ≡ true
    → k ≤ level u (reports_at g) p → 0 + k ≤ level u 0 p
claim_of_reports u Proposed q p k ok h = omega (arith, h)
claim_of_reports u (Claimed t) q p k ok h = omega (arith, h)
claim_of_reports u (Done t) q p k ok h = absurd (false≢true (and_parts (u == q) false ok).1)

-- a report that is answered Ok is no claim
report_of_claims : (u : ℕ) (g : Stage) (t p k : ℕ) → is_claim_of t g ≡ true → k ≤ level u (claims_at g) p
    → 0 + k ≤ level u 1 p
report_of_claims u Proposed t p k ok h = absurd (false≢true ok)
report_of_claims u (Claimed v) t p k ok h = omega (arith, h)
report_of_claims u (Done v) t p k ok h = absurd (false≢true ok)

-- a number stands for the phase where the phase is the last proposed one
counted_once : (b : Bool) (n : ℕ) → ◌≡◌ {A = ℕ} (cond (is_some (cond b (Some n) None)) 1 0) (cond b 1 0)
counted_once true n = refl
counted_once false n = refl

-- it is the first report of its phase
report_of_reports : (u n : ℕ) (g : Stage) (t p k : ℕ) → is_claim_of t g ≡ true → k ≤ level u (reports_at g) p
    → cond (is_some (number_for (Some (record { phase = u; number = n; stage = g })) p)) 1 0 + k ≤ level u 1 p
report_of_reports u n Proposed t p k ok h = absurd (false≢true ok)
report_of_reports u n (Claimed v) t p k ok h =
    omega (arith, counted_once (u == p) n, level_more u p k h)
report_of_reports u n (Done v) t p k ok h = absurd (false≢true ok)

claims_few : (g : Stage) → claims_at g ≤ 1
claims_few Proposed = omega arith
claims_few (Claimed t) = omega arith
claims_few (Done t) = omega arith

reports_few : (g : Stage) → reports_at g ≤ 1
reports_few Proposed = omega arith
reports_few (Claimed t) = omega arith
reports_few (Done t) = omega arith

-- the same for what is remembered, whatever it is
after_claim_claims : (s : Option Statement) (q t p k : ℕ) → is_claimable s q ≡ true → k ≤ bound claims_at s p
    → cond (q == p) 1 0 + k ≤ bound claims_at (claimed s t) p
after_claim_claims None q t p k ok h = absurd (false≢true ok)
after_claim_claims (Some x) q t p k ok h = claim_of_claims x.phase x.stage q p k ok h

after_claim_reports : (s : Option Statement) (q t p k : ℕ) → is_claimable s q ≡ true
    → k ≤ bound reports_at s p → 0 + k ≤ bound reports_at (claimed s t) p
after_claim_reports None q t p k ok h = absurd (false≢true ok)
after_claim_reports (Some x) q t p k ok h = claim_of_reports x.phase x.stage q p k ok h

after_report_claims : (s : Option Statement) (t p k : ℕ) → is_claimed_by s t ≡ true → k ≤ bound claims_at s p
    → 0 + k ≤ bound claims_at (done s t) p
after_report_claims None t p k ok h = absurd (false≢true ok)
after_report_claims (Some x) t p k ok h = report_of_claims x.phase x.stage t p k ok h

after_report_reports : (s : Option Statement) (t p k : ℕ) → is_claimed_by s t ≡ true
    → k ≤ bound reports_at s p → cond (is_some (number_for s p)) 1 0 + k ≤ bound reports_at (done s t) p
after_report_reports None t p k ok h = absurd (false≢true ok)
after_report_reports (Some x) t p k ok h = report_of_reports x.phase x.number x.stage t p k ok h

claims_bound : (cs : List Change) → AreInOrder cs → (p : ℕ)
    → count_ok (claims_phase p) cs ≤ bound claims_at (remembered cs) p
claims_bound [] o p = omega arith
claims_bound (proposal q n ∷ cs) o p =
    let s = remembered cs in
    let h = claims_bound cs o.1 p in
    counted claims_at s (proposed s q n) p (count_ok (claims_phase p) cs) (not (is_mismatch s q n)) false
    (λ e. after_proposal claims_at claims_few s q n p (count_ok (claims_phase p) cs) o.0 h) h
claims_bound (claim q t ∷ cs) o p =
    let s = remembered cs in
    let h = claims_bound cs o p in
    counted claims_at s (claimed s t) p (count_ok (claims_phase p) cs) (is_claimable s q) (q == p)
    (λ e. after_claim_claims s q t p (count_ok (claims_phase p) cs) e h) h
claims_bound (report t ∷ cs) o p =
    let s = remembered cs in
    let h = claims_bound cs o p in
    counted claims_at s (done s t) p (count_ok (claims_phase p) cs) (is_claimed_by s t) false
    (λ e. after_report_claims s t p (count_ok (claims_phase p) cs) e h) h

reports_bound : (cs : List Change) → AreInOrder cs → (p : ℕ)
    → count_ok (reports_phase p) cs ≤ bound reports_at (remembered cs) p
reports_bound [] o p = omega arith
reports_bound (proposal q n ∷ cs) o p =
    let s = remembered cs in
    let h = reports_bound cs o.1 p in
    counted reports_at s (proposed s q n) p (count_ok (reports_phase p) cs) (not (is_mismatch s q n)) false
    (λ e. after_proposal reports_at reports_few s q n p (count_ok (reports_phase p) cs) o.0 h) h
reports_bound (claim q t ∷ cs) o p =
    let s = remembered cs in
    let h = reports_bound cs o p in
    counted reports_at s (claimed s t) p (count_ok (reports_phase p) cs) (is_claimable s q) false
    (λ e. after_claim_reports s q t p (count_ok (reports_phase p) cs) e h) h
reports_bound (report t ∷ cs) o p =
    let s = remembered cs in
    let h = reports_bound cs o p in
    counted reports_at s (done s t) p (count_ok (reports_phase p) cs) (is_claimed_by s t)
    (is_some (number_for s p)) (λ e. after_report_reports s t p (count_ok (reports_phase p) cs) e h) h

bound_few : (m : Stage → ℕ) → ((g : Stage) → m g ≤ 1) → (s : Option Statement) (p : ℕ) → bound m s p ≤ 1
bound_few m few None p = omega arith
bound_few m few (Some x) p = level_few x.phase (m x.stage) p (few x.stage)

-- no phase is claimed twice
pub one_claim : (cs : List Change) → AreInOrder cs → (p : ℕ) → count_ok (claims_phase p) cs ≤ 1
one_claim cs o p = omega (arith, claims_bound cs o p, bound_few claims_at claims_few (remembered cs) p)

-- no phase is reported twice
pub one_report : (cs : List Change) → AreInOrder cs → (p : ℕ) → count_ok (reports_phase p) cs ≤ 1
one_report cs o p = omega (arith, reports_bound cs o p, bound_few reports_at reports_few (remembered cs) p)
