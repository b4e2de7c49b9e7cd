-- The pipeline as tasks: what each does next, and what it is after that.
use Rattle.std.specs.Prelude.{ℕ, zero, suc, pos, ◌+◌, min, nat_le, Bool, nat_lt, if◌then◌else◌, true, false, [], ◌∷◌, Option, Some, None}
use Rattle.phase_modes.specs.declared.reg.Mode.TheVariants.{Sig, SigWait, Wait}
use Rattle.phase_model.specs.declared.op.Op.TheVariants.{Least}
use Rattle.job_script.specs.declared.act.Act.{Act}
use Rattle.job_script.specs.declared.act.Act.TheVariants.{New, Async, Send, Look, Next, End}
use Rattle.job_script.specs.declared.act.Answer.{Answer}
use Rattle.job_kernels.specs.declared.pipeline_body.Root.{Root}
use Rattle.job_kernels.specs.declared.pipeline_body.Source.{Source}
use Rattle.job_kernels.specs.declared.pipeline_body.Stage.{Stage}
use Rattle.job_kernels.specs.declared.pipeline_body.Sink.{Sink}
use Rattle.job_kernels.specs.declared.pipeline_body.Moment.{Moment}
use Rattle.job_kernels.specs.declared.pipeline_body.Moment.TheVariants.{Turns, Looks, Hears}
use Rattle.job_kernels.specs.declared.pipeline_body.Role as roles
use Rattle.job_kernels.specs.declared.pipeline_body.Role.TheVariants as kinds
use Rattle.job_kernels.specs.declared.pipeline_body.PipelineBody.{PipelineBody}
use Rattle.job_kernels.specs.Tasks.{seen_in, pair_on, Does}

-- how many items there are at most
abbrev pub most_items : ℕ
most_items = 2000000000

-- the most that an item becomes: with the number of a stage added it fits a message
abbrev pub greatest : ℕ
greatest = 2000001000

-- ---- the source: it sends each item, and ends a turn after each

-- if no item is left, it ends
abbrev pub source_sends : Source → Act PipelineBody × Source
source_sends s =
    if nat_lt s.sent s.items then
    (Send 0 0 (pos (min (s.sent + 1) greatest)), record s { sent = s.sent + 1; sends = false })
    else (End, s)

abbrev pub source_next : Source → Act PipelineBody × Source
source_next s = if s.sends then source_sends s else (Next, record s { sends = true })

-- ---- a stage: it adds its number, which is one more than that of the phaser before it, to each item

-- it ends its turn; if no turn is left, it ends
abbrev pub stage_turns : ℕ → Stage → Act PipelineBody × Stage
stage_turns zero s = (End, s)
stage_turns (suc turns) s = (Next, record s { turns = turns; moment = Looks })

-- it sends on what it saw, with its number added; if that is no item, it ends its turn
abbrev pub stage_sends : Option ℕ → Stage → Act PipelineBody × Stage
stage_sends None s = stage_turns s.turns s
stage_sends (Some item) s =
    (Send (s.before + 1) 0 (pos (item + (s.before + 1))), record s { moment = Turns })

abbrev pub stage_at : Moment → Answer → Stage → Act PipelineBody × Stage
stage_at Turns heard s = stage_turns s.turns s
stage_at Looks heard s = (Look s.before 0, record s { moment = Hears })
stage_at Hears heard s = stage_sends (seen_in greatest heard) s

abbrev pub stage_next : Answer → Stage → Act PipelineBody × Stage
stage_next heard s = stage_at s.moment heard s

-- ---- the sink: it sees each item come out

abbrev pub sink_turns : ℕ → Sink → Act PipelineBody × Sink
sink_turns zero s = (End, s)
sink_turns (suc turns) s = (Next, record s { turns = turns; looks = true })

abbrev pub sink_next : Sink → Act PipelineBody × Sink
sink_next s = if s.looks then (Look s.phaser 0, record s { looks = false }) else sink_turns s.turns s

-- ---- the root

abbrev pub source_task : ℕ → PipelineBody
source_task items = record { role = kinds.Source (record { items = items; sent = 0; sends = true }) }

-- the stage behind phaser k
abbrev pub stage_task : ℕ → ℕ → PipelineBody
stage_task items k =
    record { role = kinds.Stage (record { before = k; turns = items + k; moment = Turns }) }

abbrev pub sink_task : ℕ → ℕ → PipelineBody
sink_task items stages =
    record { role = kinds.Sink (record { phaser = stages; turns = items + stages; looks = false }) }

-- the spawns in order: the source signals on phaser 0, a stage waits on the phaser before it and
-- signals on that behind it, and the sink waits on the last
abbrev pub spawn_source : ℕ → Act PipelineBody
spawn_source items = Async (source_task items) (pair_on 0 Sig ∷ [])

abbrev pub spawn_stage : ℕ → ℕ → Act PipelineBody
spawn_stage items k = Async (stage_task items k) (pair_on k Wait ∷ pair_on (k + 1) Sig ∷ [])

abbrev pub spawn_sink : ℕ → ℕ → Act PipelineBody
spawn_sink items stages = Async (sink_task items stages) (pair_on stages Wait ∷ [])

abbrev pub spawn : ℕ → ℕ → ℕ → Act PipelineBody
spawn items stages zero = spawn_source items
spawn items stages (suc k) = if nat_lt k stages then spawn_stage items k else spawn_sink items stages

-- the root makes a phaser before the first stage and one behind each, then spawns the source, the
-- stages and the sink, and ends
abbrev pub root_next : Root → Act PipelineBody × Root
root_next r =
    if nat_le r.made r.stages then (New SigWait (Least ∷ []) None, record r { made = r.made + 1 })
    else if nat_le r.spawned (r.stages + 1) then
    (spawn r.items r.stages r.spawned, record r { spawned = r.spawned + 1 })
    else (End, r)

abbrev pub root_task : ℕ → ℕ → PipelineBody
root_task stages items =
    record { role = kinds.Root (record { stages = stages; items = items; made = 0; spawned = 0 }) }

abbrev pub is_sink_role : roles.Role → Bool
is_sink_role (kinds.Sink s) = true
is_sink_role _ = false

-- ---- all four

abbrev pub role_next : Answer → roles.Role → Act PipelineBody × roles.Role
role_next heard (kinds.Root r) = ((root_next r).0, kinds.Root (root_next r).1)
role_next heard (kinds.Source s) = ((source_next s).0, kinds.Source (source_next s).1)
role_next heard (kinds.Stage s) = ((stage_next heard s).0, kinds.Stage (stage_next heard s).1)
role_next heard (kinds.Sink s) = ((sink_next s).0, kinds.Sink (sink_next s).1)

-- what a task of the pipeline does next, if it hears this, and what it is after that
abbrev pub pipeline_next : Answer → PipelineBody → Does PipelineBody
pipeline_next heard b = ((role_next heard b.role).0, record { role = (role_next heard b.role).1 })

-- whether it is the sink
abbrev pub is_sink : PipelineBody → Bool
is_sink b = is_sink_role b.role
