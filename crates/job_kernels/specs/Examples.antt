-- Two whole runs, event by event, oldest first: so there are histories of which the laws speak.
use Rattle.std.specs.Prelude.{◌≡◌, pos, List, [], ◌∷◌, reverse, None}
use Rattle.phase_modes.specs.declared.reg.Mode.TheVariants.{Sig as OnlySig, Wait, SigWait}
use Rattle.phase_modes.specs.Limits.{default_limits}
use Rattle.phase_model.specs.declared.op.Op.TheVariants.{Sum, Least}
use Rattle.finish_core.specs.declared.event.FinishEvent.TheVariants.{Spawned, Ended, Shut as Shutting}
use Rattle.world_model.specs.ExampleWords.{unbounded}
use Rattle.world_model.specs.declared.event.Step.TheVariants.{Make, Reg, Sig, Pass, Send, Look, Drop}
use Rattle.world_model.specs.declared.event.Begun.TheVariants.{Async, Next, End}
use Rattle.world_model.specs.declared.event.WorldEvent.{WorldEvent}
use Rattle.world_model.specs.declared.event.WorldEvent.TheVariants.{Phaser, Finish, Begin}
use Rattle.job_kernels.specs.Tasks.{pair_on}
use Rattle.job_kernels.specs.StencilTasks as stencils
use Rattle.job_kernels.specs.PipelineTasks as pipelines
use Rattle.trace_walk.specs.Whole.{IsWhole}
use Rattle.job_kernels.specs.Totals.{pipeline_totals, stencil_totals}

-- a step of two cells, 4 and 8, which become 4 and 5
abbrev pub step_of_two : List WorldEvent
step_of_two = reverse (
    Phaser 0 (Make 0 SigWait (unbounded (Sum ∷ [])))
    ∷ Phaser 1 (Make 0 SigWait (unbounded (Sum ∷ [])))
    ∷ Begin 0 (Async 1 (pair_on 0 SigWait ∷ pair_on 1 Wait ∷ []))
    ∷ Phaser 0 (Reg 0 1 SigWait)
    ∷ Phaser 1 (Reg 0 1 Wait)
    ∷ Finish 0 (Spawned 1)
    ∷ Begin 0 (Async 2 (pair_on 1 SigWait ∷ pair_on 0 Wait ∷ []))
    ∷ Phaser 1 (Reg 0 2 SigWait)
    ∷ Phaser 0 (Reg 0 2 Wait)
    ∷ Finish 0 (Spawned 2)
    ∷ Begin 0 End
    ∷ Phaser 0 (Drop 0)
    ∷ Phaser 1 (Drop 0)
    ∷ Phaser 0 (Send 1 0 (pos 4))
    ∷ Phaser 1 (Send 2 0 (pos 8))
    ∷ Begin 1 Next
    ∷ Phaser 0 (Sig 1 None)
    ∷ Begin 2 Next
    ∷ Phaser 1 (Sig 2 None)
    ∷ Phaser 0 (Pass 1)
    ∷ Phaser 1 (Pass 1)
    ∷ Phaser 1 (Pass 2)
    ∷ Phaser 0 (Pass 2)
    ∷ Phaser 1 (Look 1 0)
    ∷ Phaser 0 (Look 2 0)
    ∷ Phaser 0 (Send 1 0 (pos 4))
    ∷ Phaser 1 (Send 2 0 (pos 5))
    ∷ Begin 1 End
    ∷ Phaser 0 (Drop 1)
    ∷ Phaser 1 (Drop 1)
    ∷ Finish 0 (Ended 1)
    ∷ Begin 2 End
    ∷ Phaser 1 (Drop 2)
    ∷ Phaser 0 (Drop 2)
    ∷ Finish 0 (Ended 2)
    ∷ Finish 0 Shutting
    ∷ [])

abbrev pub StepOfTwoIsWhole : Type 0
StepOfTwoIsWhole =
    IsWhole stencils.stencil_next (stencils.root_task (4 ∷ 8 ∷ []) 1) default_limits step_of_two

-- its events, counted one by one, and what was sent: 4, 8, 4 and 5
abbrev pub StepOfTwoIsCounted : Type 0
StepOfTwoIsCounted = stencil_totals (4 ∷ 8 ∷ []) 1 ≡ record {
  registered = 6;
  signals = 2;
  passes = 4;
  drops = 6;
  sends = 4;
  up = 21;
  down = 0;
}

-- an item behind one stage, which becomes 2
abbrev pub one_item : List WorldEvent
one_item = reverse (
    Phaser 0 (Make 0 SigWait (unbounded (Least ∷ [])))
    ∷ Phaser 1 (Make 0 SigWait (unbounded (Least ∷ [])))
    ∷ Begin 0 (Async 1 (pair_on 0 OnlySig ∷ []))
    ∷ Phaser 0 (Reg 0 1 OnlySig)
    ∷ Finish 0 (Spawned 1)
    ∷ Begin 0 (Async 2 (pair_on 0 Wait ∷ pair_on 1 OnlySig ∷ []))
    ∷ Phaser 0 (Reg 0 2 Wait)
    ∷ Phaser 1 (Reg 0 2 OnlySig)
    ∷ Finish 0 (Spawned 2)
    ∷ Begin 0 (Async 3 (pair_on 1 Wait ∷ []))
    ∷ Phaser 1 (Reg 0 3 Wait)
    ∷ Finish 0 (Spawned 3)
    ∷ Begin 0 End
    ∷ Phaser 0 (Drop 0)
    ∷ Phaser 1 (Drop 0)
    ∷ Phaser 0 (Send 1 0 (pos 1))
    ∷ Begin 1 Next
    ∷ Phaser 0 (Sig 1 None)
    ∷ Phaser 0 (Pass 1)
    ∷ Begin 1 End
    ∷ Phaser 0 (Drop 1)
    ∷ Finish 0 (Ended 1)
    ∷ Begin 2 Next
    ∷ Phaser 1 (Sig 2 None)
    ∷ Phaser 0 (Pass 2)
    ∷ Phaser 1 (Pass 2)
    ∷ Phaser 0 (Look 2 0)
    ∷ Phaser 1 (Send 2 0 (pos 2))
    ∷ Begin 2 End
    ∷ Phaser 0 (Drop 2)
    ∷ Phaser 1 (Drop 2)
    ∷ Finish 0 (Ended 2)
    ∷ Begin 3 Next
    ∷ Phaser 1 (Pass 3)
    ∷ Phaser 1 (Look 3 0)
    ∷ Begin 3 Next
    ∷ Phaser 1 (Pass 3)
    ∷ Phaser 1 (Look 3 0)
    ∷ Begin 3 End
    ∷ Phaser 1 (Drop 3)
    ∷ Finish 0 (Ended 3)
    ∷ Finish 0 Shutting
    ∷ [])

abbrev pub OneItemIsWhole : Type 0
OneItemIsWhole = IsWhole pipelines.pipeline_next (pipelines.root_task 1 1) default_limits one_item

-- its events, counted one by one, and what was sent: 1 and 2
abbrev pub OneItemIsCounted : Type 0
OneItemIsCounted = pipeline_totals 1 1 ≡ record {
  registered = 6;
  signals = 2;
  passes = 5;
  drops = 6;
  sends = 2;
  up = 3;
  down = 0;
}
