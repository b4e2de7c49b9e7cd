-- The laws of a stencil's histories: its cells are sent and seen, and a whole run comes to its last row.
use Rattle.std.proofs.Common.{ℕ, ℤ, pos, ◌+◌, ◌≡◌, ◌<◌, ◌∙◌, cond, List, [], ◌∷◌, ◌++◌, length, map, flat_map, sym, ap, subst, arith}
use Rattle.std.specs.List.{range_with_len}
use Rattle.std.proofs.Math.IntN.{+ℤ_idl}
use Rattle.std.proofs.lemmas.Bool.{lt-ltb}
use Rattle.phase_modes.specs.declared.limits.Limits.{Limits}
use Rattle.phase_model.specs.Phases.{signals}
use Rattle.phase_model.specs.Values.{sent, sum_of}
use Rattle.world_model.specs.declared.event.Step.TheVariants.{Send, Look}
use Rattle.world_model.specs.declared.event.WorldEvent.{WorldEvent}
use Rattle.world_model.specs.declared.event.WorldEvent.TheVariants.{Phaser}
use Rattle.world_model.specs.Parts.{phaser_past}
use Rattle.world_model.specs.Numbers.{is_phaser}
use Rattle.world_model.specs.Report.{folds_from, phase_count, phaser_lines, report_of}
use Rattle.world_model.proofs.MadeMeans.{last_accepted}
use Rattle.trace_walk.specs.Whole.{IsSmooth, IsWhole}
use Rattle.job_kernels.specs.Stencil.{AtMost, stencil}
use Rattle.job_kernels.specs.StencilLines.{cells_at}
use Rattle.job_kernels.specs.StencilTasks.{greatest, root_task, stencil_next}
use Rattle.job_kernels.specs.Stencils.{ValuesAreCells, LooksSeeCells, RunsComeToStencil}
use Rattle.job_kernels.specs.Results.{value_in, cell_of, cells_of}
use Rattle.job_kernels.proofs.Numbers.{lt_zero_plus, zero_least, zero_plus}
use Rattle.job_kernels.proofs.Goes.{GoesSmoothly, smoothly}
use Rattle.job_kernels.proofs.Plain.{turns}
use Rattle.job_kernels.proofs.IdlePaces.{signals_in_send}
use Rattle.job_kernels.proofs.Reports.{sum_in, sent_counts, all_read, by_number}
use Rattle.job_kernels.proofs.Telling.{smooth_before}
use Rattle.job_kernels.proofs.StencilRuns.{length-stencil}
use Rattle.job_kernels.proofs.Plans.{Shape, Plan}
use Rattle.job_kernels.proofs.Going.{Standing, LooksSaw}
use Rattle.job_kernels.proofs.Acts.{Smooth, place_below}
use Rattle.job_kernels.proofs.Sees.{SendIs, send_is}
use Rattle.job_kernels.proofs.Histories.{holds, earlier, is_made, ops, fits, values}
use Rattle.job_kernels.proofs.Counts.{no_others}
use Rattle.job_kernels.proofs.StencilPlan.{stencil_shape, stencil_plan}

module _ (l : Limits) (first : List ℕ) (steps : ℕ) (small : AtMost greatest first) where
  abbrev s : Shape
  s = stencil_shape first steps

  p : Plan s
  p = stencil_plan first steps small

  -- ---- each history

  -- a history at each earlier moment
  before_that : (later w whole : List WorldEvent) → IsSmooth stencil_next (root_task first steps) l whole
      → whole ≡ later ++ w → Smooth s p l w
  before_that later w whole k is =
      earlier s p l later w
      (subst (λ x. GoesSmoothly stencil_next (root_task first steps) l x) is
      (smoothly stencil_next (root_task first steps) l whole k))

  -- what is sent is the cell
  values_are : (before : List WorldEvent) (n t a : ℕ) (v : ℤ) → Smooth s p l (Phaser n (Send t a v) ∷ before)
      → (n < length first) × (a ≡ 0) × (v ≡ cells_at first (signals t (phaser_past n before)) n)
  values_are before n t a v now =
      let x = last_accepted l (Phaser n (Send t a v)) before now.legal in
      let st : Standing s before =
      (holds s p l before (smooth_before stencil_next (root_task first steps) l
      (Phaser n (Send t a v)) before now)).stands in
      let i : SendIs s p l before st x.1 n t a v = send_is s p l before st x.1 n t a v now.goes.0 x.0 in
      let signalled : signals t (phaser_past n before) ≡ turns t before =
      signals_in_send l before (record { legal = x.1; plain = st.plain }) n t a v x.0 in (
        place_below s p l before st x.1 n t i.place,
        i.zero_acc,
        sym (same_value (cells_at first (turns t before) n) i.value)
            ∙ ap (λ y. cells_at first y n) (sym signalled),
      )
    where
      same_value : (u : ℤ) → u ∷ [] ≡ v ∷ [] → u ≡ v
      same_value u e = cc

  -- each look saw its cell
  saw : (w : List WorldEvent) → Smooth s p l w → LooksSaw s w
  saw w now = (holds s p l w now).saw

  -- ---- a whole run

  module _ (w : List WorldEvent) (whole : IsWhole stencil_next (root_task first steps) l w) where
    -- what was sent for the phase after the last step
    value : (j : ℕ) → j < length first → sent 0 steps (phaser_past j w) ≡ cells_at first steps j ∷ []
    value j lt =
        values s p l w whole j lt steps
        ∙ ap (λ b. cond b (cells_at first steps j ∷ []) []) (lt-ltb steps (steps + 1) (self steps))
      where
        self : (n : ℕ) → n < n + 1
        self n = omega arith

    -- what the report has of it
    line : (j : ℕ) → j < length first → cell_of steps (phaser_lines w j) ≡ cells_at first steps j ∷ []
    line j lt =
        let past = phaser_past j w in
        ap (λ os. flat_map (value_in steps)
        (flat_map (λ q. folds_from q 0 os past) (range_with_len 0 (phase_count past))))
        (ops s p l w whole j lt)
        ∙ (sum_in past steps 0 (phase_count past) (zero_least steps)
        (lt_zero_plus steps (phase_count past) (sent_counts steps (cells_at first steps j) past (value j lt)))
        ∙ (ap (λ xs. sum_of xs ∷ []) (value j lt) ∙ ap (λ y. y ∷ []) (+ℤ_idl (cells_at first steps j))))

    -- so the report has the last row
    comes_to : cells_of steps (report_of l w) ≡ map pos (stencil steps first)
    comes_to =
        all_read (phaser_lines w) (cell_of steps) (λ j. is_phaser j w) (cells_at first steps) (length first)
        (λ j lt. (is_made s p l w whole j lt, line j lt)) (no_others s p l w whole) 0 (length first) l.phasers
        (zero_plus (length first)) (fits s p l w whole)
        ∙ by_number (λ x. pos x) (stencil steps first) (length first) (length-stencil steps first)

-- ---- the laws

pub values_are_cells : ValuesAreCells
values_are_cells l first steps w short small k later before n t a v is =
    values_are l first steps small before n t a v
    (before_that l first steps small later (Phaser n (Send t a v) ∷ before) w k is)

pub looks_see_cells : LooksSeeCells
looks_see_cells l first steps w short small k later before n t a q is waited =
    (saw l first steps small (Phaser n (Look t a) ∷ before)
    (before_that l first steps small later (Phaser n (Look t a) ∷ before) w k is)).0 q waited

pub runs_come_to_stencil : RunsComeToStencil
runs_come_to_stencil l first steps w short small whole = comes_to l first steps small w whole
