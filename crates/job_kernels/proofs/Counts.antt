-- What a whole run of a plan counts: no phasers but its own, and the totals of its report.
use Rattle.std.proofs.Common.{ℕ, ℤ, zero, suc, ◌+◌, ◌≡◌, ◌≤◌, ◌<◌, ◌∙◌, Bool, true, false, ◌==◌, nat_lt, cond, inl, inr, List, [], ◌∷◌, Option, Some, None, refl, sym, ap, subst, arith}
use Rattle.std.specs.Prelude.{count_by}
use Rattle.std.specs.List.{sum_by, range_with_len}
use Rattle.std.proofs.lemmas.Bool.{and_parts, cases_Bool, eqb-true, eq-eqb, true≢false, false_from_ne_true, not-true}
use Rattle.std.proofs.lemmas.List.Sums.{sum_by-cons}
use Rattle.phase_modes.specs.Lists.{is_empty}
use Rattle.phase_modes.specs.declared.limits.Limits.{Limits}
use Rattle.phase_model.specs.Amounts.{totals, up_of, down_of}
use Rattle.phase_model.specs.Values.{sent}
use Rattle.phase_model.specs.Rules.{is_allowed, is_legal}
use Rattle.phase_model.specs.declared.history.Event.{Event}
use Rattle.phase_model.specs.declared.history.Event.TheVariants.{Make as Made}
use Rattle.phase_model.specs.declared.terms.Terms.{Terms}
use Rattle.phase_modes.specs.declared.reg.Mode.{Mode}
use Rattle.world_model.specs.declared.event.Step.{Step}
use Rattle.world_model.specs.declared.event.Step.TheVariants.{Make}
use Rattle.world_model.specs.declared.event.WorldEvent.{WorldEvent}
use Rattle.world_model.specs.declared.event.WorldEvent.TheVariants.{Phaser}
use Rattle.world_model.specs.declared.report.TotalsLine.{TotalsLine}
use Rattle.world_model.specs.Numbers.{is_phaser}
use Rattle.world_model.specs.Parts.{event_for, phaser_past, terms_of}
use Rattle.world_model.specs.Report.{below, is_send, report_of, phase_count}
use Rattle.world_model.proofs.PhasersLegal.{phasers_legal}
use Rattle.trace_walk.specs.Whole.{IsWhole}
use Rattle.job_kernels.proofs.Numbers.{le_apart_next_le, lt_zero_plus}
use Rattle.job_kernels.proofs.Plain.{turns, child_at}
use Rattle.job_kernels.proofs.Children.{at_below}
use Rattle.job_kernels.proofs.Making.{phaser_fits, some_before}
use Rattle.job_kernels.proofs.RunSums.{up_to, sum_same}
use Rattle.job_kernels.proofs.Weights.{IsSum, weigh, by_made, of_pairs, handed, handed_by, pasts, all_same, spread}
use Rattle.job_kernels.proofs.EndedSums.{registered_in_all, dropped_in_all, passed_in_all, signals_of, signalled_in_all}
use Rattle.job_kernels.proofs.SentSums.{values_sum, sends_counted, ups_counted, downs_counted, values_in_all, values_of_phaser, nothing_sent, lines_same}
use Rattle.job_kernels.proofs.Plans.{Shape, Plan}
use Rattle.job_kernels.proofs.Going.{phasers_made, out_if}
use Rattle.job_kernels.proofs.Histories.{at_end, plain, full, is_made, fits, values, values_of_child}

-- the root makes each phaser for itself
made_weighs : (w : List WorldEvent) → weigh (by_made (λ t m. 1)) w ≡ phasers_made w
made_weighs [] = refl
made_weighs (Phaser n (Make t m terms) ∷ w) = omega (arith, made_weighs w)
made_weighs (Phaser n x ∷ w) = omega (arith, made_weighs w)
made_weighs (e ∷ w) = omega (arith, made_weighs w)

-- ---- how many phasers there are

-- how often a phaser was made
abbrev makings : List Event → ℕ
makings [] = 0
makings (Made t m ∷ h) = 1 + makings h
makings (_ ∷ h) = makings h

-- it is a sum over the steps
makings_sum : IsSum makings (by_made (λ t m. 1))
makings_sum = record { none = refl; more = more }
  where
    more : (terms : Terms) (h : List Event) (x : Step)
        → makings (event_for terms h x ∷ h) ≡ by_made (λ t m. 1) x + makings h
    more terms h (Make t m o) = refl
    more terms h x = omega arith

-- once, if it has any event
made_once : (l : Limits) (terms : Terms) (h : List Event) → is_legal l terms h ≡ true → is_empty h ≡ false
    → 1 ≤ makings h
made_once l terms [] k some = absurd (true≢false some)
made_once l terms (Made t m ∷ h) k some = omega arith
made_once l terms (e ∷ h) k some =
    let a = and_parts (is_allowed l terms h e) (is_legal l terms h) k in
    made_once l terms h a.1 (some_before l terms h e a.0 refl)

-- each part of a sum is at most the sum
part_of : (f : ℕ → ℕ) (a m j : ℕ) → a ≤ j → j < a + m → f j ≤ sum_by f (range_with_len a m)
part_of f a zero j le lt = absurd (omega arith)
part_of f a (suc m) j le lt =
    elim (cases_Bool (a == j)) [
      | inl e ↦ omega (arith, sum_by-cons f a (range_with_len (a + 1) m), ap (λ x. f x) (eqb-true a j e))
      | inr e ↦
          let next : a + 1 ≤ j = le_apart_next_le j a le (λ x. true≢false (sym (eq-eqb a j x) ∙ e)) in
          omega (arith, sum_by-cons f a (range_with_len (a + 1) m), part_of f (a + 1) m j next (omega arith))
    ]

-- if the first r of them are each at least 1, and so is a later one, the sum is more than r
one_beyond : (f : ℕ → ℕ) (j r a m : ℕ) → ((i : ℕ) → i < a + r → 1 ≤ f i) → a + r ≤ j → j < a + m → 1 ≤ f j
    → r + 1 ≤ sum_by f (range_with_len a m)
one_beyond f j zero a m all le lt one = omega (arith, part_of f a m j (omega arith) lt)
one_beyond f j (suc r) a zero all le lt one = absurd (omega arith)
one_beyond f j (suc r) a (suc m) all le lt one =
    omega (
      arith,
      sum_by-cons f a (range_with_len (a + 1) m),
      all a (omega arith),
      one_beyond f j r (a + 1) m (λ i h. all i (omega (arith, h))) (omega arith) (omega arith) one,
    )

-- ---- a whole run

module _ (s : Shape) (p : Plan s) (l : Limits) (w : List WorldEvent)
    (whole : IsWhole s.next (s.root 0 0) l w) where
  open s use {op, phasers, children, pairs, out, phases}

  -- each phaser that was made counts at least once
  once : (j : ℕ) → is_phaser j w ≡ true → 1 ≤ makings (phaser_past j w)
  once j is =
      made_once l (terms_of j w) (phaser_past j w) (phasers_legal l w whole.smooth.legal j)
      (not-true (is_empty (phaser_past j w)) is)

  -- so there are no others than those of the plan
  pub no_others : (j : ℕ) → phasers ≤ j → is_phaser j w ≡ false
  no_others j far =
      false_from_ne_true (is_phaser j w) (λ is.
      let more =
      one_beyond (λ n. makings (phaser_past n w)) j phasers 0 l.phasers
      (λ i lt. once i (is_made s p l w whole i (omega (arith, lt)))) (omega (arith, far))
      (lt_zero_plus j l.phasers (phaser_fits l j w whole.smooth.legal is)) (once j is) in
      let all = spread l makings (by_made (λ t m. 1)) makings_sum w whole.smooth.legal in
      over phasers (phasers_made w) (made_weighs w) (full s p l w whole).0 all more)
    where
      over : (n m : ℕ) {x y : ℕ} → y ≡ m → m ≡ n → x ≡ y → n + 1 ≤ x → ⊥
      over n m a b c d = omega arith

  -- what is handed out, place by place
  pub handed_all : (g : ℕ → Mode → ℕ) (f : ℕ → ℕ)
      → ((i c : ℕ) → child_at i w ≡ Some c → of_pairs g c (pairs i) ≡ f i)
      → handed g w ≡ up_to f children
  handed_all g f each =
      handed_by g pairs f w (at_end s p l w whole).handed each ∙ ap (λ n. up_to f n) (full s p l w whole).1

  -- ---- the values

  module _ (a : ℤ → ℕ) (g : ℕ → ℕ) (each : (j c : ℕ) → j < phasers
      → sum_by (λ q. sum_by a (out_if s j (phases j) q)) (range_with_len 0 (c + phases j)) ≡ g j) where
    -- on a phaser of the plan its child sends all
    of_phaser : (j : ℕ) → j < phasers → values_sum a (phaser_past j w) ≡ g j
    of_phaser j lt =
        let past = phaser_past j w in
        values_of_phaser l op w (plain s p l w whole) (at_end s p l w whole).made a j (phases j)
        ∙ (sum_same (λ q. sum_by a (sent 0 q past)) (λ q. sum_by a (out_if s j (phases j) q))
        (range_with_len 0 (phase_count past + phases j))
        (λ q. ap (λ vs. sum_by a vs) (values s p l w whole j lt q))
        ∙ each j (phase_count past) lt)

    -- the others send nothing
    of_none : (j : ℕ) → phasers ≤ j → values_sum a (phaser_past j w) ≡ 0
    of_none j far =
        nothing_sent l op w (plain s p l w whole) (at_end s p l w whole).made a j
        (λ q. by_child q (child_at j w) refl)
      where
        nothing : (b : Bool) → ◌≡◌ {A = List ℤ} (cond b [] []) []
        nothing true = refl
        nothing false = refl

        by_child : (q : ℕ) (o : Option ℕ) → child_at j w ≡ o → sent 0 q (phaser_past j w) ≡ []
        by_child q None at = (at_end s p l w whole).unsent j q at
        by_child q (Some c) at =
            let lt : j < children = subst (λ n. j < n) (full s p l w whole).1 (at_below j c w at) in
            values_of_child s p l w whole j c at q
            ∙ (ap (λ xs. cond (nat_lt q (phases j)) xs []) (p.silent j q far lt)
            ∙ nothing (nat_lt q (phases j)))

    -- so all values add up
    all_values : sum_by (values_sum a) (pasts l w) ≡ sum_by g (below phasers)
    all_values = values_in_all a l w g phasers (fits s p l w whole) of_phaser of_none

  -- ---- the line

  -- the totals of the report, by what is handed out and what is sent
  pub totals_are : (is : TotalsLine) (g : (ℤ → ℕ) → ℕ → ℕ)
      → ((a : ℤ → ℕ) (j c : ℕ) → j < phasers
      → sum_by (λ q. sum_by a (out_if s j (phases j) q)) (range_with_len 0 (c + phases j)) ≡ g a j)
      → phasers + handed (λ t m. 1) w ≡ is.registered → is.registered ≡ is.drops
      → handed (signals_of l w (plain s p l w whole) whole.ended) w ≡ is.signals
      → handed (λ t m. turns t w) w ≡ is.passes
      → sum_by (g (λ v. 1)) (below phasers) ≡ is.sends → sum_by (g up_of) (below phasers) ≡ is.up
      → sum_by (g down_of) (below phasers) ≡ is.down
      → (report_of l w).totals ≡ is
  totals_are is g each registered dropped signalled passed sends up down =
      let line = (report_of l w).totals in
      let is_plain = plain s p l w whole in
      let made = made_weighs w ∙ (full s p l w whole).0 in
      let all = ap (λ n. n + handed (λ t m. 1) w) made ∙ registered in
      lines_same line.registered line.signals line.passes line.drops line.sends line.up line.down
      is.registered is.signals is.passes is.drops is.sends is.up is.down
      (registered_in_all l w is_plain whole.ended ∙ all)
      (signalled_in_all l w is_plain whole.ended ∙ signalled)
      (passed_in_all l w is_plain whole.ended ∙ passed)
      (dropped_in_all l w is_plain whole.ended ∙ (all ∙ dropped))
      (all_same l w (count_by is_send) (values_sum (λ v. 1)) (λ j. sends_counted (phaser_past j w))
      ∙ (all_values (λ v. 1) (g (λ v. 1)) (each (λ v. 1)) ∙ sends))
      (all_same l w (λ x. (totals x).up) (values_sum up_of) (λ j. ups_counted (phaser_past j w))
      ∙ (all_values up_of (g up_of) (each up_of) ∙ up))
      (all_same l w (λ x. (totals x).down) (values_sum down_of) (λ j. downs_counted (phaser_past j w))
      ∙ (all_values down_of (g down_of) (each down_of) ∙ down))
