-- What is printed of a whole run of a kernel.
use Rattle.std.proofs.Common.{ℕ, ℤ, ◌≡◌, ◌≤◌, None, List, ◌++◌, length, Ok, ap, arith, ◌∙◌}
use Rattle.std.specs.Prelude.{codes, flat_map}
use Rattle.world_model.specs.declared.report.TotalsLine.{TotalsLine}
use Rattle.world_model.specs.Report.{Report}
use Rattle.world_model.specs.ReportLines.{totals_row}
use Rattle.phase_modes.specs.Limits.{default_limits}
use Rattle.job_kernels.specs.Pipeline.{pipeline}
use Rattle.job_kernels.specs.PipelineTasks as piping
use Rattle.job_kernels.specs.Results.{cells_of, items_of, refusal_of}
use Rattle.job_kernels.specs.Stencil.{stencil, AtMost}
use Rattle.job_kernels.specs.StencilTasks as cells
use Rattle.job_kernels.proofs.StencilLaws.{runs_come_to_stencil}
use Rattle.job_kernels.proofs.StencilTotals.{runs_total_stencil}
use Rattle.job_kernels.proofs.PipelineWhole.{runs_come_to_pipeline}
use Rattle.job_kernels.proofs.PipelineTotals.{runs_total_pipeline}
use Rattle.run_jobs.specs.declared.printing.Kernel.TheVariants.{Stencil, Pipeline}
use Rattle.run_jobs.specs.Printed.{kernel_text, value_text}
use Rattle.run_jobs.specs.KernelsWorked.{IsKernelRun, values_text, stencil_text, pipeline_text}
use Rattle.run_jobs.proofs.Whole.{reported}

-- the text of these values
abbrev text : List ℕ → TotalsLine → List ℤ → List ℕ
text word totals values = word ++ flat_map value_text values ++ (codes "\n" ++ totals_row totals)

pub stencil_printed : (first : List ℕ) (steps : ℕ) (r : Report) → length first ≤ 16 → AtMost cells.greatest first
    → IsKernelRun cells.stencil_next (cells.root_task first steps) (Ok r) → refusal_of r ≡ None
    → kernel_text (Stencil steps) r ≡ stencil_text first steps
stencil_printed first steps r few small run none =
    let whole = reported cells.stencil_next (cells.root_task first steps) r run none in
    ap (λ vs. text (codes "cells") r.totals vs)
    (ap (λ x. cells_of steps x) whole.is
    ∙ runs_come_to_stencil default_limits first steps whole.history few small whole.whole)
    ∙ ap (λ totals. values_text (codes "cells") (stencil steps first) totals)
    (ap (λ (x : Report). x.totals) whole.is ∙ runs_total_stencil default_limits first steps whole.history few small whole.whole)

pub pipeline_printed : (stages items : ℕ) (r : Report) → stages ≤ 15 → items ≤ 100
    → IsKernelRun piping.pipeline_next (piping.root_task stages items) (Ok r) → refusal_of r ≡ None
    → kernel_text (Pipeline stages) r ≡ pipeline_text stages items
pipeline_printed stages items r few_stages few_items run none =
    let whole = reported piping.pipeline_next (piping.root_task stages items) r run none in
    let small : items ≤ piping.most_items = omega (arith, few_items) in
    ap (λ vs. text (codes "items") r.totals vs)
    (ap (λ x. items_of stages x) whole.is
    ∙ runs_come_to_pipeline default_limits stages items whole.history few_stages small whole.whole)
    ∙ ap (λ totals. values_text (codes "items") (pipeline stages items) totals)
    (ap (λ (x : Report). x.totals) whole.is
    ∙ runs_total_pipeline default_limits stages items whole.history few_stages small whole.whole)
