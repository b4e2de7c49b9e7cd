-- Sums over the values that were sent on a phaser, phase by phase.
use Rattle.std.proofs.Common.{◌≡◌, ℕ, ℤ, ◌+◌, ◌≤◌, ◌<◌, Bool, true, false, ◌&&◌, ◌==◌, nat_lt, cond, max, List, [], ◌∷◌, length, refl, sym, ap, subst, ◌∙◌, inl, inr, arith}
use Rattle.std.specs.Prelude.{count_by}
use Rattle.std.specs.List.{list_all, sum_by, filter, range_with_len}
use Rattle.std.proofs.lemmas.Bool.{and_parts, and_from, cases_Bool, eq-eqb, ltb-true, true≢false, not-false}
use Rattle.std.proofs.lemmas.List.Sums.{sum_by-cons}
use Rattle.phase_modes.specs.declared.limits.Limits.{Limits}
use Rattle.phase_modes.specs.Mode.{can_signal}
use Rattle.phase_modes.specs.Lists.{is_empty}
use Rattle.phase_model.specs.declared.history.Event.{Event}
use Rattle.phase_model.specs.declared.history.Event.TheVariants.{Sig, Pass, Send}
use Rattle.phase_model.specs.declared.terms.Terms.{Terms}
use Rattle.phase_model.specs.declared.op.Op.{Op}
use Rattle.phase_model.specs.Amounts.{totals, up_of, down_of}
use Rattle.phase_model.specs.Phases.{signals, waits}
use Rattle.phase_model.specs.Tasks.{is_live, has_mode}
use Rattle.phase_model.specs.Rules.{is_legal}
use Rattle.phase_model.specs.Values.{sent}
use Rattle.phase_model.proofs.Legal.{last_follows}
use Rattle.phase_model.proofs.LiveTasks.{empty_is}
use Rattle.world_model.specs.declared.event.Step.{Step}
use Rattle.world_model.specs.declared.event.WorldEvent.{WorldEvent}
use Rattle.world_model.specs.declared.event.WorldEvent.TheVariants.{Phaser}
use Rattle.world_model.specs.Numbers.{is_phaser}
use Rattle.world_model.specs.declared.report.TotalsLine.{TotalsLine}
use Rattle.world_model.specs.Parts.{phaser_past, terms_of, ops_of}
use Rattle.world_model.specs.Report.{below, phase_count, is_send}
use Rattle.world_model.proofs.PhasersLegal.{phasers_legal, event_of}
use Rattle.job_kernels.proofs.Numbers.{max_right_le, zero_least, zero_plus}
use Rattle.job_kernels.proofs.Plain.{IsPlain}
use Rattle.job_kernels.proofs.Making.{AllMade, made}
use Rattle.job_kernels.proofs.RunSums.{sum_both, sum_same, sum_none, sum_mapped, sum_filter, sum_picked, sum_below}
use Rattle.job_kernels.proofs.Weights.{pasts}

-- the sum over all values, by the value
abbrev pub values_sum : (ℤ → ℕ) → List Event → ℕ
values_sum a [] = 0
values_sum a (Send t b v ∷ h) = a v + values_sum a h
values_sum a (_ ∷ h) = values_sum a h

-- a step that sends nothing leaves what was sent
pub step_sends_nothing : (w : List WorldEvent) (m : ℕ) (s : Step)
    → ((i p : ℕ) → sent 0 p (event_of i w s ∷ phaser_past i w) ≡ sent 0 p (phaser_past i w))
    → (i p : ℕ) → sent 0 p (phaser_past i (Phaser m s ∷ w)) ≡ sent 0 p (phaser_past i w)
step_sends_nothing w m s none i p = either (m == i)
  where
    either : (b : Bool) → sent 0 p (cond b (event_of i w s ∷ phaser_past i w) (phaser_past i w))
        ≡ sent 0 p (phaser_past i w)
    either true = none i p
    either false = refl

-- ---- the counts of a report are such sums

pub sends_counted : (h : List Event) → count_by is_send h ≡ values_sum (λ v. 1) h
sends_counted [] = refl
sends_counted (Send t b v ∷ h) = sum_by-cons (λ e. cond (is_send e) 1 0) (Send t b v) h ∙ ap (λ x. 1 + x) (sends_counted h)
sends_counted (e ∷ h) =
    sum_by-cons (λ x. cond (is_send x) 1 0) e h ∙ (zero_plus (count_by is_send h) ∙ sends_counted h)

pub ups_counted : (h : List Event) → (totals h).up ≡ values_sum up_of h
ups_counted [] = refl
ups_counted (Send t b v ∷ h) = ap (λ x. up_of v + x) (ups_counted h)
ups_counted (e ∷ h) = zero_plus (totals h).up ∙ ups_counted h

pub downs_counted : (h : List Event) → (totals h).down ≡ values_sum down_of h
downs_counted [] = refl
downs_counted (Send t b v ∷ h) = ap (λ x. down_of v + x) (downs_counted h)
downs_counted (e ∷ h) = zero_plus (totals h).down ∙ downs_counted h

-- ---- phase by phase

-- a value goes to accumulator 0
abbrev is_first : Event → Bool
is_first (Send t b v) = b == 0
is_first _ = true

-- where there is no more than one accumulator, each does
all_first : (l : Limits) (terms : Terms) (h : List Event) → is_legal l terms h ≡ true → length terms.ops ≤ 1
    → list_all is_first h ≡ true
all_first l terms [] k one = refl
all_first l terms (Send t b v ∷ h) k one =
    let f = last_follows l terms h (Send t b v) k in
    let p = and_parts (is_live t h && has_mode can_signal t h) (nat_lt b (length terms.ops)) f.permitted in
    and_from (b == 0) (list_all is_first h)
    (eq-eqb b 0 (zero_below b (length terms.ops) (ltb-true b (length terms.ops) p.1) one))
    (all_first l terms h f.before one)
  where
    zero_below : (x y : ℕ) → x < y → y ≤ 1 → x ≡ 0
    zero_below x y a c = omega arith
all_first l terms (e ∷ h) k one = all_first l terms h (last_follows l terms h e k).before one

module _ (a : ℤ → ℕ) where
  one_value : (v : ℤ) (vs : List ℤ) (b d : Bool) → b ≡ true
      → sum_by a (cond (b && d) (v ∷ vs) vs) ≡ cond d (a v) 0 + sum_by a vs
  one_value v vs true true e = sum_by-cons a v vs
  one_value v vs true false e = sym (zero_plus (sum_by a vs))
  one_value v vs false d e = absurd (true≢false (sym e))

  by_phases : (h : List Event) (n : ℕ) → list_all is_first h ≡ true → phase_count h ≤ n
      → values_sum a h ≡ sum_by (λ p. sum_by a (sent 0 p h)) (range_with_len 0 n)
  by_phases [] n k le = sym (sum_none (λ p. sum_by a (sent 0 p [])) (range_with_len 0 n) (λ p. refl))
  by_phases (Send t b v ∷ h) n k le =
      let q = and_parts (b == 0) (list_all is_first h) k in
      let ns = range_with_len 0 n in
      let each =
      sum_same (λ p. sum_by a (sent 0 p (Send t b v ∷ h)))
      (λ p. cond (signals t h == p) (a v) 0 + sum_by a (sent 0 p h)) ns
      (λ p. one_value v (sent 0 p h) (b == 0) (signals t h == p) q.0) in
      let both = sum_both (λ p. cond (signals t h == p) (a v) 0) (λ p. sum_by a (sent 0 p h)) ns in
      let one =
      sum_picked (a v) (signals t h) 0 n (zero_least (signals t h)) (inside (signals t h) (phase_count h) n le) in
      let rest = by_phases h n q.1 (max_right_le (signals t h + 1) (phase_count h) n le) in
      omega (arith, each, both, one, rest)
    where
      inside : (x y z : ℕ) → max (x + 1) y ≤ z → x < 0 + z
      inside x y z h = omega arith
  by_phases (Sig t x ∷ h) n k le = by_phases h n k (max_right_le (signals t h + 1) (phase_count h) n le)
  by_phases (Pass t ∷ h) n k le = by_phases h n k (max_right_le (waits t h + 1) (phase_count h) n le)
  by_phases (e ∷ h) n k le = by_phases h n k le

  -- so where it is known what was sent for each phase, as far as any number of phases
  pub values_by_phase : (l : Limits) (terms : Terms) (h : List Event) (n : ℕ) → is_legal l terms h ≡ true
      → length terms.ops ≤ 1
      → values_sum a h ≡ sum_by (λ p. sum_by a (sent 0 p h)) (range_with_len 0 (phase_count h + n))
  values_by_phase l terms h n k one = by_phases h (phase_count h + n) (all_first l terms h k one) (more (phase_count h) n)
    where
      more : (x y : ℕ) → x ≤ x + y
      more x y = omega arith

  -- ---- phaser by phaser

  -- where the phasers below the bound are all on which something was sent
  pub values_in_all : (l : Limits) (w : List WorldEvent) (g : ℕ → ℕ) (n : ℕ) → n ≤ l.phasers
      → ((j : ℕ) → j < n → values_sum a (phaser_past j w) ≡ g j)
      → ((j : ℕ) → n ≤ j → values_sum a (phaser_past j w) ≡ 0)
      → sum_by (values_sum a) (pasts l w) ≡ sum_by g (below n)
  values_in_all l w g n fits same none =
      sum_mapped (values_sum a) (λ j. phaser_past j w) (filter (λ j. is_phaser j w) (below l.phasers))
      ∙ (sum_filter (λ j. values_sum a (phaser_past j w)) (λ j. is_phaser j w) (below l.phasers)
      (λ j e. ap (λ h. values_sum a h) (empty_is (phaser_past j w) (not-false (is_empty (phaser_past j w)) e)))
      ∙ sum_below (λ j. values_sum a (phaser_past j w)) g n 0 n l.phasers (zero_plus n) fits same none)

-- ---- in a plain world whose phasers have one accumulator each

module _ (l : Limits) (op : Op) (w : List WorldEvent) (k : IsPlain l w) (made_so : AllMade op w) (a : ℤ → ℕ) where
  -- what was sent on a phaser, as far as any number of phases
  pub values_of_phaser : (j n : ℕ) → values_sum a (phaser_past j w)
      ≡ sum_by (λ p. sum_by a (sent 0 p (phaser_past j w))) (range_with_len 0 (phase_count (phaser_past j w) + n))
  values_of_phaser j n =
      elim (cases_Bool (is_empty (phaser_past j w))) [
        | inl none ↦ by_empty (phaser_past j w) n (empty_is (phaser_past j w) none)
        | inr some ↦
            values_by_phase a l (terms_of j w) (phaser_past j w) n (phasers_legal l w k.legal j)
            (one_op (ops_of j w) (made l op j w k made_so some).ops)
      ]
    where
      one_op : (ops : List Op) → ops ≡ op ∷ [] → length ops ≤ 1
      one_op ops is = subst (λ (xs : List Op). length xs ≤ 1) (sym is) (omega arith)

      by_empty : (h : List Event) (n : ℕ) → h ≡ []
          → values_sum a h ≡ sum_by (λ p. sum_by a (sent 0 p h)) (range_with_len 0 (phase_count h + n))
      by_empty h n is =
          subst (λ (g : List Event). values_sum a g
          ≡ sum_by (λ p. sum_by a (sent 0 p g)) (range_with_len 0 (phase_count g + n))) (sym is)
          (sym (sum_none (λ p. sum_by a (sent 0 p [])) (range_with_len 0 (phase_count [] + n)) (λ p. refl)))

  -- nothing, where nothing was sent for any phase
  pub nothing_sent : (j : ℕ) → ((p : ℕ) → sent 0 p (phaser_past j w) ≡ []) → values_sum a (phaser_past j w) ≡ 0
  nothing_sent j none =
      values_of_phaser j 0
      ∙ sum_none (λ p. sum_by a (sent 0 p (phaser_past j w))) (range_with_len 0 (phase_count (phaser_past j w) + 0))
      (λ p. ap (λ vs. sum_by a vs) (none p))

-- ---- the line

pub lines_same : (r s p d n u m r' s' p' d' n' u' m' : ℕ)
    → r ≡ r' → s ≡ s' → p ≡ p' → d ≡ d' → n ≡ n' → u ≡ u' → m ≡ m'
    → ◌≡◌ {A = TotalsLine}
    (record { registered = r; signals = s; passes = p; drops = d; sends = n; up = u; down = m })
    (record { registered = r'; signals = s'; passes = p'; drops = d'; sends = n'; up = u'; down = m' })
lines_same r s p d n u m r' s' p' d' n' u' m' a b c e f g h = rw (a, b, c, e, f, g, h) refl
