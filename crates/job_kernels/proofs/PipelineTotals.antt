-- The totals of a whole run of a pipeline.
use Rattle.std.proofs.Common.{ℕ, ℤ, zero, suc, pos, ◌+◌, ◌*◌, ◌≡◌, ◌≤◌, ◌<◌, ◌∙◌, Bool, true, false, nat_lt, cond, List, Some, refl, sym, ap, arith}
use Rattle.std.specs.List.{sum, sum_by, range_with_len}
use Rattle.std.proofs.lemmas.Bool.{lt-ltb, le-ltb, ltb-true, ltb-false}
use Rattle.std.proofs.lemmas.List.Sums.{sum-map}
use Rattle.phase_modes.specs.declared.limits.Limits.{Limits}
use Rattle.phase_modes.specs.declared.reg.Mode.{Mode}
use Rattle.phase_modes.specs.declared.reg.Mode.TheVariants.{Sig, Wait}
use Rattle.phase_model.specs.Amounts.{up_of, down_of}
use Rattle.world_model.specs.declared.event.WorldEvent.{WorldEvent}
use Rattle.world_model.specs.Report.{below, report_of}
use Rattle.trace_walk.specs.Whole.{IsWhole}
use Rattle.job_kernels.specs.Pipeline.{pipeline, pipeline_item}
use Rattle.job_kernels.specs.PipelineTasks.{most_items, root_task, pipeline_next}
use Rattle.job_kernels.specs.Totals.{stage_turns, pipeline_totals, RunsTotalPipeline}
use Rattle.job_kernels.proofs.Numbers.{le_self, plus_zero, zero_plus}
use Rattle.job_kernels.proofs.Plain.{turns, spawned, child_at}
use Rattle.job_kernels.proofs.Children.{at_below}
use Rattle.job_kernels.proofs.EndedSums.{signals_of}
use Rattle.job_kernels.proofs.RunSums.{up_to, sum_same, sum_none, sum_const, sum_mapped, sum_flat, up_to_is_sum, up_to_same, up_to_first, up_to_times}
use Rattle.job_kernels.proofs.Weights.{of_pairs, handed}
use Rattle.job_kernels.proofs.Plans.{Shape, Plan}
use Rattle.job_kernels.proofs.Going.{out_if}
use Rattle.job_kernels.proofs.Histories.{plain, full, turned}
use Rattle.job_kernels.proofs.Counts.{handed_all, totals_are}
use Rattle.job_kernels.proofs.PipelinePlan.{pairs_of, pipeline_shape, pipeline_plan}
use Rattle.job_kernels.proofs.PipelineWhole.{values_in, item, all_values, out_is}

-- ---- what is handed out: to the source, the stages and the sink

-- a sum over the places
by_places : (f : ℕ → ℕ) (stages : ℕ) → up_to f (stages + 2)
    ≡ f 0 + up_to (λ j. f (suc j)) stages + f (suc stages)
by_places f stages =
    let two : up_to f (stages + 2) ≡ up_to f (suc (suc stages)) = ap (λ n. up_to f n) (two_more stages) in
    omega (arith, two, up_to_first f (suc stages))
  where
    two_more : (n : ℕ) → n + 2 ≡ suc (suc n)
    two_more n = omega arith

stage_pairs : (g : ℕ → Mode → ℕ) (stages j c : ℕ) → j < stages
    → of_pairs g c (pairs_of stages (suc j)) ≡ g c Wait + (g c Sig + 0)
stage_pairs g stages j c lt = rw (lt-ltb j stages lt) refl

sink_pairs : (g : ℕ → Mode → ℕ) (stages j c : ℕ) → stages ≤ j → of_pairs g c (pairs_of stages (suc j))
    ≡ g c Wait + 0
sink_pairs g stages j c le = rw (le-ltb j stages le) refl

-- what the source or a stage sends on its phaser
item_values : (stages items : ℕ) (a : ℤ → ℕ) (j c : ℕ) → j < stages + 1
    → sum_by (λ q. sum_by a (out_if (pipeline_shape stages items) j (items + j) q))
    (range_with_len 0 (c + (items + j)))
    ≡ sum_by (λ x. a (pos (pipeline_item j x))) (range_with_len 1 items)
item_values stages items a j c lt =
    let ps = range_with_len 0 (c + (items + j)) in
    sum_same (λ q. sum_by a (out_if (pipeline_shape stages items) j (items + j) q))
    (λ q. sum_by a (values_in j items q)) ps
    (λ q. ap (λ vs. sum_by a vs) (out_is stages items j lt q))
    ∙ (sym (sum_flat a (values_in j items) ps)
    ∙ (ap (λ vs. sum_by a vs) (all_values j items 0 j (c + (items + j)) (zero_plus j) (room c j))
    ∙ sum_mapped a (item j items) (range_with_len (0 + 1) items)))
  where
    room : (c j : ℕ) → j + items ≤ c + (items + j)
    room c j = omega arith

module _ (l : Limits) (stages items : ℕ) (few_items : items ≤ most_items) (few_stages : stages ≤ 15)
    (w : List WorldEvent)
    (whole : IsWhole pipeline_next (root_task stages items) l w) where
  abbrev s : Shape
  s = pipeline_shape stages items

  p : Plan s
  p = pipeline_plan stages items few_items few_stages

  -- ---- registrations, passes and signals

  -- a sum over what is handed out, by the source, the stages and the sink
  by_hands : (g : ℕ → Mode → ℕ) (source : ℕ) (stage : ℕ → ℕ) (sink : ℕ)
      → ((c : ℕ) → turns c w ≡ items → g c Sig ≡ source)
      → ((j c : ℕ) → turns c w ≡ items + j → g c Wait + g c Sig ≡ stage j)
      → ((c : ℕ) → turns c w ≡ items + stages → g c Wait ≡ sink)
      → handed g w ≡ source + up_to stage stages + sink
  by_hands g source stage sink first each last =
      handed_all s p l w whole g f of_place
      ∙ (by_places f stages
      ∙ (ap (λ x. source + x + f (suc stages)) (up_to_same (λ j. f (suc j)) stage stages stage_is)
      ∙ ap (λ x. source + up_to stage stages + x) sink_is))
    where
      f : ℕ → ℕ
      f zero = source
      f (suc j) = cond (nat_lt j stages) (stage j) sink

      stage_is : (j : ℕ) → j < stages → f (suc j) ≡ stage j
      stage_is j lt = rw (lt-ltb j stages lt) refl

      sink_is : f (suc stages) ≡ sink
      sink_is = rw (le-ltb stages stages (le_self stages)) refl

      of_place : (i c : ℕ) → child_at i w ≡ Some c → of_pairs g c (pairs_of stages i) ≡ f i
      of_place zero c h = ap (λ x. x + 0) (first c (turned s p l w whole 0 c h)) ∙ plus_zero source
      of_place (suc j) c h = by_test (nat_lt j stages) refl
        where
          inside : j < stages → of_pairs g c (pairs_of stages (suc j)) ≡ stage j
          inside lt =
              stage_pairs g stages j c lt
              ∙ (ap (λ x. g c Wait + x) (plus_zero (g c Sig)) ∙ each j c (turned s p l w whole (suc j) c h))

          at_end : j ≡ stages → of_pairs g c (pairs_of stages (suc j)) ≡ sink
          at_end e =
              sink_pairs g stages j c (least j e)
              ∙ (plus_zero (g c Wait) ∙ last c (turned s p l w whole (suc j) c h ∙ ap (λ x. items + x) e))
            where
              least : (x : ℕ) → x ≡ stages → stages ≤ x
              least x e = omega arith

          both : (x s : ℕ) → suc x < s → s ≡ stages + 2 → stages ≤ x → x ≡ stages
          both x s a b d = omega arith

          by_test : (b : Bool) → nat_lt j stages ≡ b → of_pairs g c (pairs_of stages (suc j)) ≡ f (suc j)
          by_test true e = inside (ltb-true j stages e) ∙ sym (ap (λ b. cond b (stage j) sink) e)
          by_test false e =
              at_end (both j (spawned w) (at_below (suc j) c w h) (full s p l w whole).1
              (ltb-false j stages e))
              ∙ sym (ap (λ b. cond b (stage j) sink) e)

  ones_handed : handed (λ t m. 1) w ≡ 2 * (stages + 1)
  ones_handed =
      by_hands (λ t m. 1) 1 (λ j. 2) 1 (λ c e. refl) (λ j c e. refl) (λ c e. refl)
      ∙ (ap (λ x. 1 + x + 1) (up_to_is_sum (λ j. 2) stages ∙ sum_const 2 0 stages) ∙ all_ones stages)
    where
      all_ones : (x : ℕ) → 1 + x * 2 + 1 ≡ 2 * (x + 1)
      all_ones x = omega arith

  turns_sum : up_to (λ j. items + j) stages ≡ stage_turns stages items
  turns_sum = up_to_is_sum (λ j. items + j) stages

  turns_handed : handed (λ t m. turns t w) w ≡ items + 2 * stage_turns stages items + (items + stages)
  turns_handed =
      by_hands (λ t m. turns t w) items (λ j. 2 * (items + j)) (items + stages) (λ c e. e)
      (λ j c e. ap (λ x. x + x) e ∙ twice (items + j)) (λ c e. e)
      ∙ ap (λ x. items + x + (items + stages))
      (up_to_times 2 (λ j. items + j) stages ∙ ap (λ x. 2 * x) turns_sum)
    where
      twice : (x : ℕ) → x + x ≡ 2 * x
      twice x = omega arith

  signals_handed : handed (signals_of l w (plain s p l w whole) whole.ended) w
      ≡ items + stage_turns stages items
  signals_handed =
      by_hands (signals_of l w (plain s p l w whole) whole.ended) items (λ j. items + j) 0 (λ c e. e)
      (λ j c e. ap (λ x. 0 + x) e ∙ zero_plus (items + j)) (λ c e. refl)
      ∙ (plus_zero (items + up_to (λ j. items + j) stages) ∙ ap (λ x. items + x) turns_sum)

  -- ---- values

  sends_all : sum_by (λ j. sum_by (λ x. 1) (range_with_len 1 items)) (below (stages + 1))
      ≡ (stages + 1) * items
  sends_all =
      sum_same (λ j. sum_by (λ x. 1) (range_with_len 1 items)) (λ j. items * 1) (below (stages + 1))
      (λ j. sum_const 1 1 items)
      ∙ (sum_const (items * 1) 0 (stages + 1) ∙ by_one (stages + 1) items)
    where
      by_one : (x y : ℕ) → x * (y * 1) ≡ x * y
      by_one x y = omega arith

  ups_all : sum_by (λ j. sum_by (λ x. up_of (pos (pipeline_item j x))) (range_with_len 1 items))
      (below (stages + 1))
      ≡ sum_by (λ k. sum (pipeline k items)) (below (stages + 1))
  ups_all =
      sum_same (λ j. sum_by (λ x. up_of (pos (pipeline_item j x))) (range_with_len 1 items))
      (λ j. sum (pipeline j items)) (below (stages + 1))
      (λ j. sym (sum-map (pipeline_item j) (range_with_len 1 items)))

  downs_all : sum_by (λ j. sum_by (λ x. down_of (pos (pipeline_item j x))) (range_with_len 1 items))
      (below (stages + 1))
      ≡ 0
  downs_all =
      sum_none (λ j. sum_by (λ x. down_of (pos (pipeline_item j x))) (range_with_len 1 items))
      (below (stages + 1))
      (λ j. sum_none (λ x. down_of (pos (pipeline_item j x))) (range_with_len 1 items) (λ x. refl))

  -- the root is on each phaser too
  together : (y : ℕ) → y ≡ 2 * (stages + 1) → (stages + 1) + y ≡ 3 * (stages + 1)
  together y g = omega arith

  -- the totals of the report
  line_is : (report_of l w).totals ≡ pipeline_totals stages items
  line_is =
      totals_are s p l w whole (pipeline_totals stages items)
      (λ a j. sum_by (λ x. a (pos (pipeline_item j x))) (range_with_len 1 items))
      (λ a j c lt. item_values stages items a j c lt)
      (together (handed (λ t m. 1) w) ones_handed) refl signals_handed turns_handed sends_all ups_all
      downs_all

pub runs_total_pipeline : RunsTotalPipeline
runs_total_pipeline l stages items w few_stages few_items whole =
    line_is l stages items few_items few_stages w whole
