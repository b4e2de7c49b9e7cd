-- What the run of a kernel gives.
use Rattle.std.specs.Prelude.{◌≡◌, true, List, ◌++◌, reverse, map, pos, flat_map, codes, ℕ, Result, Ok, Err}
use Rattle.phase_modes.specs.Limits.{default_limits}
use Rattle.phase_modes.specs.declared.refusal.Refusal.{Refusal}
use Rattle.job_script.specs.declared.act.Answer.{Answer}
use Rattle.world_model.specs.declared.report.TotalsLine.{TotalsLine}
use Rattle.world_model.specs.Report.{Report, report_of}
use Rattle.world_model.specs.ReportLines.{totals_row}
use Rattle.trace_model.specs.Run.{Run}
use Rattle.trace_model.specs.Explained.{past, is_explained}
use Rattle.trace_walk.specs.Going.{goes_by}
use Rattle.trace_walk.specs.Walking.{Does}
use Rattle.tasks_in_flight.specs.Refused.{IsRunRefused}
use Rattle.job_kernels.specs.Pipeline.{pipeline}
use Rattle.job_kernels.specs.Stencil.{stencil}
use Rattle.job_kernels.specs.Totals.{pipeline_totals, stencil_totals}
use Rattle.run_jobs.specs.Printed.{value_text}

-- the report is that of a trace under the default limits that a world explains, and in which each task goes by its body;
-- without one, memory ran out or the run can't be told so
abbrev pub IsKernelRun : {B : Type 0} → (Answer → B → Does B) → B → Result Report Refusal → Type 0
IsKernelRun next root (Ok r) =
    (t : Run) × (t.limits ≡ default_limits) × (is_explained t ≡ true)
    × (goes_by next root (past (reverse t.events)) ≡ true)
    × (r ≡ report_of default_limits (past (reverse t.events)))
IsKernelRun next root (Err e) = IsRunRefused e

-- these values after this word, each after a blank, and the totals on a line of their own
abbrev pub values_text : List ℕ → List ℕ → TotalsLine → List ℕ
values_text word values totals =
    word ++ flat_map value_text (map (λ n. pos n) values) ++ (codes "\n" ++ totals_row totals)

-- the cells of the stencil and its totals, by the first cells and the steps alone
abbrev pub stencil_text : List ℕ → ℕ → List ℕ
stencil_text first steps = values_text (codes "cells") (stencil steps first) (stencil_totals first steps)

-- the items of the pipeline and its totals, by the stages and the items alone
abbrev pub pipeline_text : ℕ → ℕ → List ℕ
pipeline_text stages items = values_text (codes "items") (pipeline stages items) (pipeline_totals stages items)
