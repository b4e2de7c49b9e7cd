-- What the tasks of a pipeline go by: the laws that tie them to the pipeline.
use Rattle.std.specs.Prelude.{ℕ, zero, suc, pos, ◌≡◌, ◌+◌, ◌≤◌, ◌<◌, List, [], ◌∷◌, ◌++◌, map, flat_map, Option, Some, None, ℤ}
use Rattle.std.specs.List.{range_with_len}
use Rattle.phase_modes.specs.declared.reg.Mode.TheVariants.{SigWait}
use Rattle.phase_model.specs.declared.op.Look.{Look}
use Rattle.phase_model.specs.declared.op.Look.TheVariants.{Value, Nothing}
use Rattle.phase_model.specs.declared.op.Op.TheVariants.{Least}
use Rattle.job_script.specs.declared.act.Act.TheVariants as acts
use Rattle.job_script.specs.declared.act.Answer.TheVariants.{Started, Done, Made, Spawned, Saw}
use Rattle.job_kernels.specs.declared.pipeline_body.PipelineBody.{PipelineBody}
use Rattle.job_kernels.specs.Pipeline.{pipeline_item}
use Rattle.job_kernels.specs.Tasks.{Line, GoesBy}
use Rattle.job_kernels.specs.PipelineTasks.{most_items, source_task, stage_task, sink_task, root_task, spawn, pipeline_next}

-- ---- what stands where

-- the item in phase p of phaser k, if there is one: each phaser is a phase behind the one before it
abbrev pub number_at : ℕ → ℕ → Option ℕ
number_at zero p = Some (p + 1)
number_at (suc k) zero = None
number_at (suc k) (suc p) = number_at k p

-- what is seen of it behind k stages
abbrev pub shown : ℕ → Option ℕ → Look ℤ
shown k None = Nothing
shown k (Some i) = Value (pos (pipeline_item k i))

-- the items of the pipeline
abbrev pub items_at : ℕ → ℕ → Look ℤ
items_at k p = shown k (number_at k p)

-- a law: behind k stages the items come in order, from phase k on
abbrev pub ItemsInOrder : Type 0
ItemsInOrder = (k p : ℕ) → items_at k (k + p) ≡ Value (pos (pipeline_item k (p + 1)))

-- ---- the tasks; `sent k p` is what is sent to phaser k for phase p

-- a value is sent, if there is one
abbrev pub sending : ℕ → Look ℤ → List (Line PipelineBody)
sending k Nothing = []
sending k (Value v) = (acts.Send k 0 v, Done) ∷ []

-- the source sends its value of a phase, and ends its turn
abbrev pub source_lines : (ℕ → ℕ → Look ℤ) → ℕ → List (Line PipelineBody)
source_lines sent p = sending 0 (sent 0 p) ++ (acts.Next, Done) ∷ []

-- a task ends its turn, looks at phaser k, and sees what came there for the phase that has ended
abbrev pub sink_lines : (ℕ → ℕ → Look ℤ) → ℕ → ℕ → List (Line PipelineBody)
sink_lines sent k p = (acts.Next, Done) ∷ (acts.Look k 0, Saw (sent k p)) ∷ []

-- and a stage sends its value of the next phase
abbrev pub stage_lines : (ℕ → ℕ → Look ℤ) → ℕ → ℕ → List (Line PipelineBody)
stage_lines sent k p = sink_lines sent k p ++ sending (k + 1) (sent (suc k) (suc p))

-- the source goes by that
abbrev pub SourceGoesBy : (ℕ → ℕ → Look ℤ) → ℕ → Type 0
SourceGoesBy sent items =
    GoesBy pipeline_next (pipeline_next Started (source_task items))
    (flat_map (source_lines sent) (range_with_len 0 items))

-- the stage behind phaser k does, and sends nothing for phase 0
abbrev pub StageGoesBy : (ℕ → ℕ → Look ℤ) → ℕ → ℕ → Type 0
StageGoesBy sent items k = (sent (suc k) 0 ≡ Nothing)
    × GoesBy pipeline_next (pipeline_next Started (stage_task items k))
    (flat_map (stage_lines sent k) (range_with_len 0 (items + k)))

-- the sink does
abbrev pub SinkGoesBy : (ℕ → ℕ → Look ℤ) → ℕ → ℕ → Type 0
SinkGoesBy sent items stages =
    GoesBy pipeline_next (pipeline_next Started (sink_task items stages))
    (flat_map (sink_lines sent stages) (range_with_len 0 (items + stages)))

-- a law: the source sends the items
abbrev pub SourceGoesByPipeline : Type 0
SourceGoesByPipeline = (items : ℕ) → items ≤ most_items → SourceGoesBy items_at items

-- a law: as long as a stage sees the items as they are behind the stages before it, it sends them as they
-- are behind one stage more
abbrev pub StagesGoByPipeline : Type 0
StagesGoByPipeline = (items k : ℕ) → items ≤ most_items → k < 15 → StageGoesBy items_at items k

-- a law: the sink looks at each phase behind the last stage, until the last item has come
abbrev pub SinkSeesAll : Type 0
SinkSeesAll = (items stages : ℕ) (sent : ℕ → ℕ → Look ℤ) → SinkGoesBy sent items stages

-- a law: whatever the source and the stages send, if each stage sees what was sent to the phaser before it
-- for the phase that has ended, they send the items of the pipeline
abbrev pub TasksSendPipeline : Type 0
TasksSendPipeline = (items stages : ℕ) (sent : ℕ → ℕ → Look ℤ) → items ≤ most_items → stages ≤ 15 →
    SourceGoesBy sent items → ((k : ℕ) → k < stages → StageGoesBy sent items k) →
    (k p : ℕ) → k ≤ stages → p < items + k → sent k p ≡ items_at k p

-- ---- the root

-- phaser p is made
abbrev pub making : ℕ → Line PipelineBody
making p = (acts.New SigWait (Least ∷ []) None, Made p)

-- the task of this place is spawned: the source, a stage or the sink
abbrev pub spawning : ℕ → ℕ → ℕ → Line PipelineBody
spawning items stages place = (spawn items stages place, Spawned (place + 1))

-- a law: the root makes the phasers, then spawns the source, the stages and the sink
abbrev pub RootSpawnsStages : Type 0
RootSpawnsStages = (items stages : ℕ) →
    GoesBy pipeline_next (pipeline_next Started (root_task stages items))
    (map making (range_with_len 0 (stages + 1))
    ++ map (spawning items stages) (range_with_len 0 (stages + 2)))
