-- Tasks that have ended are passed over: a round goes on as if each had been picked.
use Rattle.std.proofs.Common.{ℕ, zero, suc, ◌+◌, ◌-◌, ◌<◌, ◌≤◌, ◌≡◌, ◌==◌, true, List, [], ◌∷◌, Option, Some, None, slice_get, refl, sym, ap, subst, ◌∙◌, inl, inr, arith}
use Rattle.std.proofs.Math.ListN.{set}
use Rattle.std.proofs.lemmas.Bool.{cases_Bool, eqb-true, eq-eqb, true≢false}
use Rattle.phase_modes.specs.Lists.{is_empty}
use Rattle.job_script.specs.Program.{Program}
use Rattle.world_model.specs.declared.event.WorldEvent.{WorldEvent}
use Rattle.world_model.specs.Due.{due}
use Rattle.world_model.specs.Tasks.{is_born, is_ended}
use Rattle.world_model.proofs.AbruptEnds.{later_ended}
use Rattle.trace_walk.specs.Picks.{pick, round_from}
use Rattle.trace_walk.proofs.GoesOn.{pick_adds}
use Rattle.schedule_run.specs.declared.runner.Runner.{Runner}
use Rattle.schedule_run.specs.inner.Ended.{HaveEnded, known}
use Rattle.schedule_run.specs.inner.Running.{RunStands}
use Rattle.schedule_run.proofs.Counting.{round_step}
use Rattle.schedule_run.proofs.Picking.{picked_none, and_none, and_false}
use Rattle.schedule_run.proofs.Seats.{get-set_other}

-- who has ended makes nothing where it is picked
pub ended_unmoved : (p : Program) (w : List WorldEvent) (t : ℕ) → is_ended t w ≡ true → pick p w t ≡ w
ended_unmoved p w t e = picked_none p w t (rw e (and_none (is_born t w) (is_empty (due t w)))) (rw e (and_false (is_born t w)))

-- who has ended stays so
pub ended_later : (p : Program) (w : List WorldEvent) (u : ℕ) (runs : List ℕ) → HaveEnded w runs → HaveEnded (pick p w u) runs
ended_later p w u runs have t i lt =
    elim (pick_adds p w u) [
      | inl same ↦ subst (λ (v : List WorldEvent). is_ended (t + i) v ≡ true) (sym same) (have t i lt)
      | inr (e, is, a) ↦ subst (λ (v : List WorldEvent). is_ended (t + i) v ≡ true) (sym is) (later_ended (t + i) e w (have t i lt))
    ]

-- those who are passed over make nothing
pub passed_over : (n left t : ℕ) (p : Program) (w : List WorldEvent) (r : Runner) → RunStands p w r
    → ((i : ℕ) → i < n → is_ended (t + i) w ≡ true) → round_from (n + left) t p w ≡ round_from left (t + n) p w
passed_over zero left t p w r st have =
    let here : t ≡ t + 0 = omega arith in
    let none : 0 + left ≡ left = omega arith in
    ap (λ k. round_from k t p w) none ∙ ap (λ k. round_from left k p w) here
passed_over (suc n) left t p w r st have =
    let more : suc n + left ≡ suc (n + left) = omega arith in
    let first : t + 0 ≡ t = omega arith in
    let there : t + 1 + n ≡ t + suc n = omega arith in
    let stays : pick p w t ≡ w = ended_unmoved p w t (subst (λ k. is_ended k w ≡ true) first (have 0 (omega arith))) in
    ap (λ k. round_from k t p w) more
    ∙ (round_step p w r t (n + left) st
    ∙ (ap (λ (v : List WorldEvent). round_from (n + left) (t + 1) p v) stays
    ∙ (passed_over n left (t + 1) p w r st (λ i lt.
    let same : t + suc i ≡ t + 1 + i = omega arith in
    subst (λ k. is_ended k w ≡ true) same (have (suc i) (omega (arith, lt))))
    ∙ ap (λ k. round_from left k p w) there)))

-- up to this number
pub passed_to : (m left t : ℕ) (p : Program) (w : List WorldEvent) (r : Runner) → RunStands p w r → t ≤ m
    → ((i : ℕ) → t + i < m → is_ended (t + i) w ≡ true) → round_from left m p w ≡ round_from (m - t + left) t p w
passed_to m left t p w r st le have =
    let at : t + (m - t) ≡ m = omega (arith, le) in
    sym (passed_over (m - t) left t p w r st (λ i lt. have i (omega (arith, lt, le))) ∙ ap (λ k. round_from left k p w) at)

own_run : (w : List WorldEvent) (n t k : ℕ) → ((i : ℕ) → i < n → is_ended (t + i) w ≡ true) → (runs : List ℕ)
    → ((i : ℕ) → i < known (slice_get runs k) → is_ended (t + i) w ≡ true) → (i : ℕ) → i < known (slice_get (set runs k n) k) → is_ended (t + i) w ≡ true
own_run w n t k new [] old i lt = absurd (omega (arith, lt))
own_run w n t zero new (x ∷ xs) old i lt = new i lt
own_run w n t (suc k) new (x ∷ xs) old i lt = own_run w n t k new xs old i lt

-- what is noted of one task
pub noted_run : (w : List WorldEvent) (runs : List ℕ) (t n : ℕ) → HaveEnded w runs
    → ((i : ℕ) → i < n → is_ended (t + i) w ≡ true) → HaveEnded w (set runs t n)
noted_run w runs t n have new u =
    elim (cases_Bool (u == t)) [
      | inl same ↦
          subst (λ (v : ℕ). (i : ℕ) → i < known (slice_get (set runs t n) v) → is_ended (v + i) w ≡ true) (sym (eqb-true u t same))
          (own_run w n t t new runs (have t))
      | inr other ↦
          subst (λ (x : Option ℕ). (i : ℕ) → i < known x → is_ended (u + i) w ≡ true)
          (sym (get-set_other runs t u n (λ k. true≢false (sym (eq-eqb u t k) ∙ other)))) (have u)
    ]

-- a run and the one that follows it are one
pub both_runs : (w : List WorldEvent) (t n m : ℕ) → ((i : ℕ) → i < n → is_ended (t + i) w ≡ true)
    → ((i : ℕ) → i < m → is_ended (t + n + i) w ≡ true) → (i : ℕ) → i < n + m → is_ended (t + i) w ≡ true
both_runs w t zero m first second i lt =
    let same : t + 0 + i ≡ t + i = omega arith in
    subst (λ k. is_ended k w ≡ true) same (second i (omega (arith, lt)))
both_runs w t (suc n) m first second zero lt = first 0 (omega arith)
both_runs w t (suc n) m first second (suc i) lt =
    let same : t + 1 + i ≡ t + suc i = omega arith in
    subst (λ k. is_ended k w ≡ true) same
    (both_runs w (t + 1) n m
    (λ j lj. let here : t + suc j ≡ t + 1 + j = omega arith in subst (λ k. is_ended k w ≡ true) here (first (suc j) (omega (arith, lj))))
    (λ j lj. let here : t + suc n + j ≡ t + 1 + n + j = omega arith in subst (λ k. is_ended k w ≡ true) here (second j lj))
    i (omega (arith, lt)))
