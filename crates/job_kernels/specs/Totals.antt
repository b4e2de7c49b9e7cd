-- What the events of a whole run add up to: the totals of its report, by the arguments alone.
use Rattle.std.specs.Prelude.{ℕ, ◌+◌, ◌-◌, ◌*◌, ◌≡◌, ◌≤◌, List, length}
use Rattle.std.specs.List.{sum, sum_by}
use Rattle.phase_modes.specs.declared.limits.Limits.{Limits}
use Rattle.world_model.specs.declared.event.WorldEvent.{WorldEvent}
use Rattle.world_model.specs.declared.report.TotalsLine.{TotalsLine}
use Rattle.world_model.specs.Report.{below, report_of}
use Rattle.job_kernels.specs.Pipeline.{pipeline}
use Rattle.job_kernels.specs.PipelineTasks as piping
use Rattle.job_kernels.specs.Stencil.{AtMost, stencil}
use Rattle.job_kernels.specs.StencilTasks as cells
use Rattle.trace_walk.specs.Whole.{IsWhole}

-- ---- the stencil

-- on how many phasers the tasks of a row are registered in all: each on its own and on those of both its neighbours, of
-- which the first and the last have only one
abbrev pub places : ℕ → ℕ
places cells = 3 * cells - 2

-- The root is registered on each phaser too. In each step each task signals on its own phaser, and passes all of its
-- phasers. It sends its value at first and in each step, so in all the rows of cells are sent.
abbrev pub stencil_totals : List ℕ → ℕ → TotalsLine
stencil_totals first steps = record {
  registered = places (length first) + length first;
  signals = steps * length first;
  passes = steps * places (length first);
  drops = places (length first) + length first;
  sends = (steps + 1) * length first;
  up = sum_by (λ t. sum (stencil t first)) (below (steps + 1));
  down = 0;
}

-- a whole run has these totals
abbrev pub RunsTotalStencil : Type 0
RunsTotalStencil = (l : Limits) (first : List ℕ) (steps : ℕ) (w : List WorldEvent)
    → length first ≤ 16 → AtMost cells.greatest first
    → IsWhole cells.stencil_next (cells.root_task first steps) l w
    → (report_of l w).totals ≡ stencil_totals first steps

-- ---- the pipeline

-- the turns of all stages: the stage behind phaser k takes as many as there are items, and k more until the first comes
abbrev pub stage_turns : ℕ → ℕ → ℕ
stage_turns stages items = sum_by (λ k. items + k) (below stages)

-- The root is registered on each phaser, and so is who signals there, and who waits. The source takes a turn for each
-- item; it and the stages signal on one phaser, the stages and the sink wait on one, and a turn passes both. The source
-- and each stage send each item.
abbrev pub pipeline_totals : ℕ → ℕ → TotalsLine
pipeline_totals stages items = record {
  registered = 3 * (stages + 1);
  signals = items + stage_turns stages items;
  passes = items + 2 * stage_turns stages items + (items + stages);
  drops = 3 * (stages + 1);
  sends = (stages + 1) * items;
  up = sum_by (λ k. sum (pipeline k items)) (below (stages + 1));
  down = 0;
}

-- a whole run has these totals
abbrev pub RunsTotalPipeline : Type 0
RunsTotalPipeline = (l : Limits) (stages items : ℕ) (w : List WorldEvent)
    → stages ≤ 15 → items ≤ piping.most_items
    → IsWhole piping.pipeline_next (piping.root_task stages items) l w
    → (report_of l w).totals ≡ pipeline_totals stages items
