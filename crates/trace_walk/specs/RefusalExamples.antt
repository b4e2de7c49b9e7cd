-- Worked examples of runs in which a task is refused: limits that are met, acts that may not be made.
use Rattle.std.specs.Prelude.{[], ◌∷◌, Some, pos}
use Rattle.phase_modes.specs.Limits.{default_limits}
use Rattle.phase_modes.specs.declared.limits.Limits.{Limits}
use Rattle.phase_modes.specs.declared.reg.Mode.TheVariants.{Sig as OnlySig, Wait as OnlyWait, SigWait}
use Rattle.phase_model.specs.declared.op.Op.TheVariants.{Sum}
use Rattle.job_script.specs.declared.head.Head.TheVariants.{New, Async, OpenFinish, ShutFinish, Next, NextSingle, Send}
use Rattle.world_model.specs.ExampleWords.{ended, refused_with, in_all, phases_of, sum_is, tasks_in, unbounded}
use Rattle.trace_walk.specs.ExampleWords.{ComesTo, on, plain, program, root_alone, with_limits, within}

-- ---- limits that the root meets

abbrev pub few_acts : Limits
few_acts = record default_limits { acts = 2 }

abbrev pub ActsFullRun : Type 0
ActsFullRun = ComesTo (with_limits few_acts (plain Next ∷ plain Next ∷ plain Next ∷ [])) []
    (root_alone (Some 19) (tasks_in 0 0 ∷ []))

abbrev pub one_task : Limits
one_task = record default_limits { tasks = 1 }

abbrev pub TasksFullRun : Type 0
TasksFullRun = ComesTo (with_limits one_task (within (Async []) [] ∷ [])) []
    (root_alone (Some 17) (tasks_in 0 0 ∷ []))

abbrev pub one_finish : Limits
one_finish = record default_limits { finishes = 1 }

abbrev pub FinishesFullRun : Type 0
FinishesFullRun = ComesTo (with_limits one_finish (plain OpenFinish ∷ [])) []
    (root_alone (Some 18) (tasks_in 0 0 ∷ []))

abbrev pub one_phaser : Limits
one_phaser = record default_limits { phasers = 1 }

abbrev pub PhasersFullRun : Type 0
PhasersFullRun =
    ComesTo (with_limits one_phaser (plain (New 0 OnlySig (unbounded [])) ∷ plain (New 1 OnlySig (unbounded [])) ∷ [])) [] (record {
      phasers = phases_of 0 0 [] ∷ [];
      tasks = refused_with 0 16 ∷ [];
      finishes = tasks_in 0 0 ∷ [];
      totals = in_all 1 0 0 1 0 0 0;
    })

-- ---- acts of the root that may not be made

-- its end with an open finish
abbrev pub FinishOpenRun : Type 0
FinishOpenRun = ComesTo (program (plain OpenFinish ∷ [])) []
    (root_alone (Some 20) (tasks_in 0 0 ∷ tasks_in 1 0 ∷ []))

-- a shut of no finish
abbrev pub NoFinishRun : Type 0
NoFinishRun = ComesTo (program (plain ShutFinish ∷ [])) [] (root_alone (Some 21) (tasks_in 0 0 ∷ []))

-- a single without a phaser
abbrev pub OnePhaserOnlyRun : Type 0
OnePhaserOnlyRun = ComesTo (program (plain (NextSingle 1) ∷ [])) [] (root_alone (Some 8) (tasks_in 0 0 ∷ []))

-- a value for a name without a meaning
abbrev pub NotRegisteredRun : Type 0
NotRegisteredRun = ComesTo (program (plain (Send 0 0 (pos 1)) ∷ [])) []
    (root_alone (Some 1) (tasks_in 0 0 ∷ []))

-- ---- what goes wrong in the middle of an act

abbrev pub two_regs : Limits
two_regs = record default_limits { regs = 2 }

-- a spawn that fails halfway: the child that was never spawned leaves its phaser first
abbrev pub UnbornChildDropped : Type 0
UnbornChildDropped = ComesTo (with_limits two_regs (
    plain (New 0 SigWait (unbounded []))
    ∷ plain (New 1 SigWait (unbounded []))
    ∷ within (Async (on 1 OnlyWait ∷ [])) (plain Next ∷ [])
    ∷ within (Async (on 0 OnlySig ∷ on 1 OnlySig ∷ [])) []
    ∷ [])) [] (record {
      phasers = phases_of 0 0 [] ∷ phases_of 1 1 [] ∷ [];
      tasks = refused_with 0 14 ∷ ended 1 ∷ [];
      finishes = tasks_in 0 1 ∷ [];
      totals = in_all 4 0 1 4 0 0 0;
    })

abbrev pub short_history : Limits
short_history = record default_limits { history = 5 }

-- a history that is full in the middle of a turn
abbrev pub HistoryFullInNext : Type 0
HistoryFullInNext = ComesTo (with_limits short_history (
    plain (New 0 SigWait (unbounded []))
    ∷ plain (New 1 SigWait (unbounded (Sum ∷ [])))
    ∷ plain (Send 1 0 (pos 7))
    ∷ plain Next
    ∷ plain Next
    ∷ [])) [] (record {
      phasers = phases_of 0 2 [] ∷ phases_of 1 1 (sum_is 0 7 ∷ []) ∷ [];
      tasks = refused_with 0 15 ∷ [];
      finishes = tasks_in 0 0 ∷ [];
      totals = in_all 2 3 2 2 1 7 0;
    })
