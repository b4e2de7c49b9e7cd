-- What a run of the pipeline gives, in whatever order its tasks go on.
use Rattle.std.specs.Prelude.{ℕ, pos, ◌≡◌, ◌≤◌, List, map}
use Rattle.phase_modes.specs.declared.limits.Limits.{Limits}
use Rattle.world_model.specs.declared.event.WorldEvent.{WorldEvent}
use Rattle.world_model.specs.Report.{report_of}
use Rattle.job_kernels.specs.Results.{items_of}
use Rattle.job_kernels.specs.Pipeline.{pipeline}
use Rattle.job_kernels.specs.PipelineTasks.{most_items, root_task, pipeline_next}
use Rattle.trace_walk.specs.Whole.{IsWhole}

-- a whole run gives the items of the pipeline, in order
abbrev pub RunsComeToPipeline : Type 0
RunsComeToPipeline = (l : Limits) (stages items : ℕ) (w : List WorldEvent)
    → stages ≤ 15 → items ≤ most_items
    → IsWhole pipeline_next (root_task stages items) l w
    → items_of stages (report_of l w) ≡ map pos (pipeline stages items)
