-- A whole run of a pipeline comes to its items, in order.
use Rattle.std.proofs.Common.{ℕ, ℤ, zero, suc, pos, ◌+◌, ◌≡◌, ◌≤◌, ◌<◌, ◌∙◌, Bool, true, false, nat_lt, cond, List, [], ◌∷◌, ◌++◌, map, flat_map, None, refl, sym, ap, subst, arith}
use Rattle.std.specs.List.{range_with_len}
use Rattle.std.proofs.lemmas.Bool.{eq-eqb, le-leb, lt-ltb, le-ltb, ltb-true, ltb-false}
use Rattle.phase_modes.specs.declared.limits.Limits.{Limits}
use Rattle.phase_model.specs.declared.op.Op.TheVariants.{Least}
use Rattle.phase_model.specs.Values.{sent, fold}
use Rattle.world_model.specs.declared.event.WorldEvent.{WorldEvent}
use Rattle.world_model.specs.declared.report.FoldLine.{FoldLine}
use Rattle.world_model.specs.Parts.{phaser_past}
use Rattle.world_model.specs.Numbers.{is_phaser}
use Rattle.world_model.specs.Report.{folds_from, phase_count, phaser_lines, report_of}
use Rattle.trace_walk.specs.Whole.{IsWhole}
use Rattle.job_kernels.specs.Pipeline.{pipeline_item, pipeline}
use Rattle.job_kernels.specs.Results.{value_seen, values_of, items_of}
use Rattle.job_kernels.specs.PipelineLines.{number_at, items_at}
use Rattle.job_kernels.specs.PipelineTasks.{most_items, root_task, pipeline_next}
use Rattle.job_kernels.specs.Pipelines.{RunsComeToPipeline}
use Rattle.job_kernels.proofs.PipelineRuns.{items_in_order}
use Rattle.job_kernels.proofs.Numbers.{le_without_one, lt_zero_plus, no_next_le_zero, none_below_zero, zero_least, zero_plus}
use Rattle.job_kernels.proofs.Reports.{sent_counts, one_read, map_twice}
use Rattle.job_kernels.proofs.Plans.{Shape, Plan}
use Rattle.job_kernels.proofs.Going.{out_if}
use Rattle.job_kernels.proofs.Histories.{is_made, ops, fits, values}
use Rattle.job_kernels.proofs.PipelinePlan.{pipeline_shape, pipeline_plan, least_seen}

-- ---- the items, phase by phase

early : (s p : ℕ) → p < s → number_at s p ≡ None
early zero p lt = absurd (none_below_zero p lt)
early (suc s) zero lt = refl
early (suc s) (suc p) lt = early s p (less p s lt)
  where
    less : (p s : ℕ) → suc p < suc s → p < s
    less p s h = omega arith

module _ (s items : ℕ) where
  -- the values of a phase
  abbrev pub values_in : ℕ → List ℤ
  values_in p = cond (nat_lt p (items + s)) (value_seen (items_at s p)) []

  abbrev pub item : ℕ → ℤ
  item i = pos (pipeline_item s i)

  late_values : (a m : ℕ) → items + s ≤ a → flat_map values_in (range_with_len a m) ≡ []
  late_values a zero le = refl
  late_values a (suc m) le = rw (le-ltb a (items + s) le) (late_values (a + 1) m (more a le))
    where
      more : (a : ℕ) → items + s ≤ a → items + s ≤ a + 1
      more a h = omega arith

  item_values : (q r a m : ℕ) → a ≡ s + q → q + r ≡ items → r ≤ m
      → flat_map values_in (range_with_len a m) ≡ map item (range_with_len (q + 1) r)
  item_values q zero a m e f le = late_values a m (at_end a q e f)
    where
      at_end : (a q : ℕ) → a ≡ s + q → q + 0 ≡ items → items + s ≤ a
      at_end a q e f = omega arith
  item_values q (suc r) a zero e f le = absurd (no_next_le_zero r le)
  item_values q (suc r) a (suc m) e f le =
      let seen : value_seen (items_at s a) ≡ item (q + 1) ∷ [] =
      ap (λ p. value_seen (items_at s p)) e ∙ ap (λ x. value_seen x) (items_in_order s q) in
      ap (λ b. cond b (value_seen (items_at s a)) [] ++ flat_map values_in (range_with_len (a + 1) m))
      (lt-ltb a (items + s) (inside a q r e f))
      ∙ (ap (λ xs. xs ++ flat_map values_in (range_with_len (a + 1) m)) seen
      ∙ ap (λ xs. item (q + 1) ∷ xs)
      (item_values (q + 1) r (a + 1) m (next a q e) (on q r f) (le_without_one r m le)))
    where
      inside : (a q r : ℕ) → a ≡ s + q → q + suc r ≡ items → a < items + s
      inside a q r e f = omega arith

      next : (a q : ℕ) → a ≡ s + q → a + 1 ≡ s + (q + 1)
      next a q e = omega arith

      on : (q r : ℕ) → q + suc r ≡ items → (q + 1) + r ≡ items
      on q r f = omega arith

  nothing_early : (p : ℕ) → p < s → values_in p ≡ []
  nothing_early p lt = by_test (nat_lt p (items + s))
    where
      by_test : (b : Bool) → cond b (value_seen (items_at s p)) [] ≡ []
      by_test true = rw (early s p lt) refl
      by_test false = refl

  pub all_values : (a e m : ℕ) → a + e ≡ s → e + items ≤ m
      → flat_map values_in (range_with_len a m) ≡ map item (range_with_len (0 + 1) items)
  all_values a zero m h le = item_values 0 items a m (from a h) (zero_plus items) (room m le)
    where
      from : (a : ℕ) → a + 0 ≡ s → a ≡ s + 0
      from a h = omega arith

      room : (m : ℕ) → 0 + items ≤ m → items ≤ m
      room m h = omega arith
  all_values a (suc e) zero h le = absurd (no_room e le)
    where
      no_room : (e : ℕ) → suc e + items ≤ 0 → ⊥
      no_room e h = omega arith
  all_values a (suc e) (suc m) h le =
      ap (λ xs. xs ++ flat_map values_in (range_with_len (a + 1) m)) (nothing_early a (below a e h))
      ∙ all_values (a + 1) e m (on a e h) (less e m le)
    where
      below : (a e : ℕ) → a + suc e ≡ s → a < s
      below a e h = omega arith

      on : (a e : ℕ) → a + suc e ≡ s → (a + 1) + e ≡ s
      on a e h = omega arith

      less : (e m : ℕ) → suc e + items ≤ suc m → e + items ≤ m
      less e m h = omega arith

no_values : (s a m : ℕ) → flat_map (values_in s 0) (range_with_len a m) ≡ []
no_values s a zero = refl
no_values s a (suc m) =
    ap (λ xs. xs ++ flat_map (values_in s 0) (range_with_len (a + 1) m)) (by_place (nat_lt a s) refl)
    ∙ no_values s (a + 1) m
  where
    over : (a s : ℕ) → s ≤ a → 0 + s ≤ a
    over a s h = omega arith

    by_place : (b : Bool) → nat_lt a s ≡ b → values_in s 0 a ≡ []
    by_place true h = nothing_early s 0 a (ltb-true a s h)
    by_place false h = rw (le-ltb a (0 + s) (over a s (ltb-false a s h))) refl

-- what the source and the stages send on a phaser, phase by phase
pub out_is : (stages items i : ℕ) → i < stages + 1 → (q : ℕ)
    → out_if (pipeline_shape stages items) i (items + i) q ≡ values_in i items q
out_is stages items i lt q = rw (le-leb i stages (inside i lt)) refl
  where
    inside : (i : ℕ) → i < stages + 1 → i ≤ stages
    inside i h = omega arith

-- ---- the whole run

module _ (l : Limits) (stages items : ℕ) (few_items : items ≤ most_items) (few_stages : stages ≤ 15)
    (w : List WorldEvent)
    (whole : IsWhole pipeline_next (root_task stages items) l w) where
  abbrev s : Shape
  s = pipeline_shape stages items

  p : Plan s
  p = pipeline_plan stages items few_items few_stages

  -- the last phaser is one of the pipeline
  last : stages < stages + 1
  last = omega arith

  -- the values of the last phaser are the items behind all stages
  sent_last : (q : ℕ) → sent 0 q (phaser_past stages w) ≡ values_in stages items q
  sent_last q = values s p l w whole stages last q ∙ out_is stages items stages last q

  -- the values of folds
  abbrev read : List FoldLine → List ℤ
  read fs = flat_map (λ (f : FoldLine). value_seen f.value) fs

  -- its folds
  folded : (ns : List ℕ)
      → read (flat_map (λ q. folds_from q 0 (Least ∷ []) (phaser_past stages w)) ns)
      ≡ flat_map (values_in stages items) ns
  folded [] = refl
  folded (q ∷ ns) =
      let after = read (flat_map (λ q. folds_from q 0 (Least ∷ []) (phaser_past stages w)) ns) in
      ap (λ xs. value_seen (fold Least xs) ++ after) (sent_last q)
      ∙ (ap (λ xs. xs ++ after) (kept (nat_lt q (items + stages)) q)
      ∙ ap (λ xs. values_in stages items q ++ xs) (folded ns))
    where
      kept : (b : Bool) (q : ℕ) → value_seen (fold Least (cond b (value_seen (items_at stages q)) []))
          ≡ cond b (value_seen (items_at stages q)) []
      kept true q = ap (λ y. value_seen y) (least_seen (items_at stages q))
      kept false q = refl

  -- all phases of items are the history's
  counted : (n : ℕ) → n ≡ items → flat_map (values_in stages items) (range_with_len 0
      (phase_count (phaser_past stages w)))
      ≡ map (λ i. pos (pipeline_item stages i)) (range_with_len (0 + 1) items)
  counted zero e =
      subst (λ i. flat_map (values_in stages i) (range_with_len 0 (phase_count (phaser_past stages w)))
      ≡ map (λ x. pos (pipeline_item stages x)) (range_with_len (0 + 1) i)) e
      (no_values stages 0 (phase_count (phaser_past stages w)))
  counted (suc n) e =
      let item_last : values_in stages items (stages + n) ≡ pos (pipeline_item stages (n + 1)) ∷ [] =
      ap (λ b. cond b (value_seen (items_at stages (stages + n))) [])
      (lt-ltb (stages + n) (items + stages) (inside n e))
      ∙ ap (λ x. value_seen x) (items_in_order stages n) in
      let long : stages + n < phase_count (phaser_past stages w) =
      sent_counts (stages + n) (pos (pipeline_item stages (n + 1))) (phaser_past stages w)
      (sent_last (stages + n) ∙ item_last) in
      all_values stages items 0 stages (phase_count (phaser_past stages w)) (zero_plus stages)
      (room n (phase_count (phaser_past stages w)) e long)
    where
      inside : (n : ℕ) → suc n ≡ items → stages + n < items + stages
      inside n e = omega arith

      room : (n c : ℕ) → suc n ≡ items → stages + n < c → stages + items ≤ c
      room n c e h = omega arith

  -- what the report has of it
  line : values_of stages (phaser_lines w stages) ≡ map (λ i. pos (pipeline_item stages i))
      (range_with_len (0 + 1) items)
  line =
      let past = phaser_past stages w in
      ap (λ b. cond b (read (phaser_lines w stages).folds) []) (eq-eqb stages stages refl)
      ∙ (ap (λ os. read (flat_map (λ q. folds_from q 0 os past) (range_with_len 0 (phase_count past))))
      (ops s p l w whole stages last)
      ∙ (folded (range_with_len 0 (phase_count past)) ∙ counted items refl))

  -- so the report has the items
  comes_to : items_of stages (report_of l w) ≡ map pos (pipeline stages items)
  comes_to =
      one_read (phaser_lines w) (values_of stages) (λ j. is_phaser j w) stages
      (map (λ i. pos (pipeline_item stages i)) (range_with_len (0 + 1) items))
      (is_made s p l w whole stages last) line
      (λ j e. ap (λ b. cond b (read (phaser_lines w j).folds) []) e)
      0 l.phasers (zero_least stages)
      (lt_zero_plus stages l.phasers (first_fits l.phasers (fits s p l w whole)))
      ∙ (ap (λ a. map (λ i. pos (pipeline_item stages i)) (range_with_len a items)) one
      ∙ sym (map_twice (λ x. pos x) (pipeline_item stages) (range_with_len 1 items)))
    where
      first_fits : (n : ℕ) → stages + 1 ≤ n → stages < n
      first_fits n h = omega arith

      one : ◌≡◌ {A = ℕ} (0 + 1) 1
      one = omega arith

pub runs_come_to_pipeline : RunsComeToPipeline
runs_come_to_pipeline l stages items w few_stages few_items whole =
    comes_to l stages items few_items few_stages w whole
