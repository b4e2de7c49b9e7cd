-- The totals of a whole run of a stencil.
use Rattle.std.proofs.Common.{ℕ, ℤ, zero, suc, ◌+◌, ◌-◌, ◌*◌, ◌≡◌, ◌≤◌, ◌<◌, ◌∙◌, cond, List, [], ◌∷◌, length, map, get_or, refl, sym, ap, arith}
use Rattle.std.specs.List.{sum, sum_by, range_with_len}
use Rattle.std.proofs.lemmas.Bool.{lt-ltb, le-ltb}
use Rattle.std.proofs.lemmas.List.Sums.{sum_by-cons, sum-map}
use Rattle.phase_modes.specs.declared.limits.Limits.{Limits}
use Rattle.phase_modes.specs.declared.reg.Mode.{Mode}
use Rattle.phase_modes.specs.declared.reg.Mode.TheVariants.{SigWait, Wait}
use Rattle.phase_model.specs.Amounts.{up_of, down_of}
use Rattle.world_model.specs.declared.event.WorldEvent.{WorldEvent}
use Rattle.world_model.specs.Report.{below, report_of}
use Rattle.trace_walk.specs.Whole.{IsWhole}
use Rattle.job_kernels.specs.Stencil.{AtMost, stencil}
use Rattle.job_kernels.specs.StencilLines.{cells_at}
use Rattle.job_kernels.specs.StencilTasks.{greatest, right_of, neighbours, phasers_of, root_task, stencil_next}
use Rattle.job_kernels.specs.Tasks.{pair_on}
use Rattle.job_kernels.specs.Totals.{places, stencil_totals, RunsTotalStencil}
use Rattle.job_kernels.proofs.Numbers.{right_part_le, zero_plus}
use Rattle.job_kernels.proofs.Plain.{turns}
use Rattle.job_kernels.proofs.EndedSums.{signals_of}
use Rattle.job_kernels.proofs.Reports.{by_number}
use Rattle.job_kernels.proofs.RunSums.{up_to, sum_same, sum_none, sum_const, sum_swapped, sum_below, up_to_is_sum, up_to_times}
use Rattle.job_kernels.proofs.Weights.{of_pairs, handed}
use Rattle.job_kernels.proofs.StencilRuns.{length-stencil}
use Rattle.job_kernels.proofs.Plans.{Shape, Plan}
use Rattle.job_kernels.proofs.Going.{out_if}
use Rattle.job_kernels.proofs.Histories.{plain, turned}
use Rattle.job_kernels.proofs.Counts.{handed_all, totals_are}
use Rattle.job_kernels.proofs.StencilPlan.{stencil_shape, stencil_plan}

-- ---- the phasers of a row

-- on how many phasers the task of cell i is
abbrev degree : ℕ → ℕ → ℕ
degree n i = 1 + length (neighbours n i)

right_in : (n i : ℕ) → i + 1 < n → length (right_of n i) ≡ 1
right_in n i h = rw (lt-ltb (i + 1) n h) refl

right_out : (n i : ℕ) → n ≤ i + 1 → length (right_of n i) ≡ 0
right_out n i h = rw (le-ltb (i + 1) n h) refl

-- those of all cells but the last
inner_places : (n m : ℕ) → m < n → up_to (degree n) m ≡ 3 * m - 1
inner_places n zero h = refl
inner_places n (suc zero) h =
    let right = right_in n 0 (omega (arith, h)) in
    omega (arith, right)
inner_places n (suc (suc m)) h =
    let right = right_in n (suc m) (omega (arith, h)) in
    let before = inner_places n (suc m) (omega (arith, h)) in
    omega (arith, right, before)

all_places : (n : ℕ) → up_to (degree n) n ≡ places n
all_places zero = refl
all_places (suc zero) =
    let right = right_out 1 0 (omega arith) in
    omega (arith, right)
all_places (suc (suc n)) =
    let right = right_out (suc (suc n)) (suc n) (omega arith) in
    let before = inner_places (suc (suc n)) (suc n) (omega arith) in
    omega (arith, right, before)

waiting : (g : ℕ → Mode → ℕ) (c : ℕ) (js : List ℕ)
    → of_pairs g c (map (λ j. pair_on j Wait) js) ≡ length js * g c Wait
waiting g c [] = omega arith
waiting g c (j ∷ js) = omega (arith, waiting g c js)

-- what a cell's task is handed
of_cell : (g : ℕ → Mode → ℕ) (n i c : ℕ)
    → of_pairs g c (phasers_of n i) ≡ g c SigWait + length (neighbours n i) * g c Wait
of_cell g n i c = ap (λ x. g c SigWait + x) (waiting g c (neighbours n i))

-- ---- the rows

row_sum : (xs : List ℕ) (n : ℕ) → length xs ≡ n → sum_by (λ j. get_or xs j 0) (range_with_len 0 n) ≡ sum xs
row_sum xs n e =
    sym (sum-map (λ j. get_or xs j 0) (range_with_len 0 n))
    ∙ (ap (λ ys. sum ys) (by_number (λ x. x) xs n e) ∙ sum-map (λ x. x) xs)

-- what the task of a cell sends on its phaser
cell_values : (first : List ℕ) (steps : ℕ) (a : ℤ → ℕ) (j c : ℕ)
    → sum_by (λ q. sum_by a (out_if (stencil_shape first steps) j (steps + 1) q))
    (range_with_len 0 (c + (steps + 1)))
    ≡ sum_by (λ q. a (cells_at first q j)) (below (steps + 1))
cell_values first steps a j c =
    sum_below (λ q. sum_by a (out_if (stencil_shape first steps) j (steps + 1) q))
    (λ q. a (cells_at first q j)) (steps + 1)
    0 (steps + 1) (c + (steps + 1)) (zero_plus (steps + 1)) (right_part_le c (steps + 1))
    (λ q h. ap (λ b. sum_by a (cond b (cells_at first q j ∷ []) [])) (lt-ltb q (steps + 1) h)
    ∙ single (cells_at first q j))
    (λ q h. ap (λ b. sum_by a (cond b (cells_at first q j ∷ []) [])) (le-ltb q (steps + 1) h))
  where
    single : (x : ℤ) → sum_by a (x ∷ []) ≡ a x
    single x = omega (arith, sum_by-cons a x [])

module _ (l : Limits) (first : List ℕ) (steps : ℕ) (small : AtMost greatest first) (w : List WorldEvent)
    (whole : IsWhole stencil_next (root_task first steps) l w) where
  abbrev s : Shape
  s = stencil_shape first steps

  p : Plan s
  p = stencil_plan first steps small

  -- ---- registrations, passes and signals

  places_handed : handed (λ t m. 1) w ≡ places (length first)
  places_handed =
      handed_all s p l w whole (λ t m. 1) (degree (length first))
      (λ i c h. of_cell (λ t m. 1) (length first) i c ∙ ones (length (neighbours (length first) i)))
      ∙ all_places (length first)
    where
      ones : (x : ℕ) → 1 + x * 1 ≡ 1 + x
      ones x = omega arith

  turns_handed : handed (λ t m. turns t w) w ≡ steps * places (length first)
  turns_handed =
      handed_all s p l w whole (λ t m. turns t w) (λ i. steps * degree (length first) i)
      (λ i c h. of_cell (λ t m. turns t w) (length first) i c
      ∙ (ap (λ x. x + length (neighbours (length first) i) * x) (turned s p l w whole i c h)
      ∙ together steps (length (neighbours (length first) i))))
      ∙ (up_to_times steps (degree (length first)) (length first)
      ∙ ap (λ x. steps * x) (all_places (length first)))
    where
      together : (k x : ℕ) → k + x * k ≡ k * (1 + x)
      together k x = omega arith

  signals_handed : handed (signals_of l w (plain s p l w whole) whole.ended) w ≡ steps * length first
  signals_handed =
      let signalled = signals_of l w (plain s p l w whole) whole.ended in
      handed_all s p l w whole signalled (λ i. steps)
      (λ i c h. of_cell signalled (length first) i c
      ∙ (ap (λ x. x + length (neighbours (length first) i) * 0) (turned s p l w whole i c h)
      ∙ nothing_else steps (length (neighbours (length first) i))))
      ∙ (up_to_is_sum (λ i. steps) (length first)
      ∙ (sum_const steps 0 (length first) ∙ turned_round (length first) steps))
    where
      nothing_else : (k x : ℕ) → k + x * 0 ≡ k
      nothing_else k x = omega arith

      turned_round : (x y : ℕ) → x * y ≡ y * x
      turned_round x y = omega arith

  -- ---- values

  sends_all : sum_by (λ j. sum_by (λ q. 1) (below (steps + 1))) (below (length first))
      ≡ (steps + 1) * length first
  sends_all =
      sum_same (λ j. sum_by (λ q. 1) (below (steps + 1))) (λ j. (steps + 1) * 1) (below (length first))
      (λ j. sum_const 1 0 (steps + 1))
      ∙ (sum_const ((steps + 1) * 1) 0 (length first) ∙ turned_round (length first) (steps + 1))
    where
      turned_round : (x y : ℕ) → x * (y * 1) ≡ y * x
      turned_round x y = omega arith

  ups_all : sum_by (λ j. sum_by (λ q. up_of (cells_at first q j)) (below (steps + 1))) (below (length first))
      ≡ sum_by (λ t. sum (stencil t first)) (below (steps + 1))
  ups_all =
      sum_swapped (λ j q. up_of (cells_at first q j)) (below (length first)) (below (steps + 1))
      ∙ sum_same (λ q. sum_by (λ j. up_of (cells_at first q j)) (below (length first)))
      (λ q. sum (stencil q first))
      (below (steps + 1)) (λ q. row_sum (stencil q first) (length first) (length-stencil q first))

  downs_all : sum_by (λ j. sum_by (λ q. down_of (cells_at first q j)) (below (steps + 1)))
      (below (length first)) ≡ 0
  downs_all =
      sum_none (λ j. sum_by (λ q. down_of (cells_at first q j)) (below (steps + 1))) (below (length first))
      (λ j. sum_none (λ q. down_of (cells_at first q j)) (below (steps + 1)) (λ q. refl))

  -- the root is on each phaser too
  round : (x y a : ℕ) → y ≡ a → x + y ≡ a + x
  round x y a h = omega arith

  -- the totals of the report
  line_is : (report_of l w).totals ≡ stencil_totals first steps
  line_is =
      totals_are s p l w whole (stencil_totals first steps)
      (λ a j. sum_by (λ q. a (cells_at first q j)) (below (steps + 1)))
      (λ a j c lt. cell_values first steps a j c)
      (round (length first) (handed (λ t m. 1) w) (places (length first)) places_handed) refl signals_handed
      turns_handed
      sends_all ups_all downs_all

pub runs_total_stencil : RunsTotalStencil
runs_total_stencil l first steps w short small whole = line_is l first steps small w whole
