-- Worked examples of finishes: the events handed to a world,
-- the reply to each, and what is reported at the end.
use Rattle.std.specs.Prelude.{◌≡◌, List, [], ◌∷◌, reverse, Ok, Err}
use Rattle.phase_modes.specs.declared.refusal.Refusal.TheVariants.{OutsideScope, NotNow}
use Rattle.phase_modes.specs.declared.reg.Mode.TheVariants.{Sig as OnlySig, Wait as OnlyWait, SigWait}
use Rattle.finish_core.specs.declared.event.FinishEvent.TheVariants.{Opened, Spawned, Ended, Shut as Shutting}
use Rattle.world_model.specs.declared.event.WorldEvent.{WorldEvent}
use Rattle.world_model.specs.declared.event.Step.TheVariants.{Make, Reg, Pass, Drop}
use Rattle.world_model.specs.declared.event.Begun.TheVariants.{Async, Next, Shut, End}
use Rattle.world_model.specs.declared.event.Tried.TheVariants.{Begun as Beginning}
use Rattle.world_model.specs.declared.event.WorldEvent.TheVariants.{Phaser, Finish, Begin, Refuse}
use Rattle.world_model.specs.declared.reply.Reply.TheVariants.{Phase, NotYet}
use Rattle.world_model.specs.ExampleWords.{ok, limits, actors, on, tasks_in, Plays, ended, in_all, phases_of, refused_with, no_phasers, played, plain}

-- nothing is done at all
abbrev pub NothingToDo : Type 0
NothingToDo =
    Plays limits
    (Begin 0 End ∷ Finish 0 Shutting ∷ [])
    (ok ∷ ok ∷ [])
    (no_phasers (ended 0 ∷ []) (tasks_in 0 0 ∷ []))

-- a child may not have a phaser of an outer finish: the spawn is refused, and so the task ends; that it is
-- outside its scope may be noted, and no other number
abbrev pub outside_scope : List WorldEvent
outside_scope =
    Phaser 0 (Make 0 SigWait plain)
    ∷ Finish 1 (Opened 0)
    ∷ Begin 0 (Async 1 (on 0 OnlySig ∷ []))
    ∷ Refuse 0 (Beginning (Async 1 (on 0 OnlySig ∷ []))) 11
    ∷ Refuse 0 (Beginning (Async 1 (on 0 OnlySig ∷ []))) 12
    ∷ Phaser 0 (Drop 0)
    ∷ Finish 1 Shutting
    ∷ Finish 0 Shutting
    ∷ []

abbrev pub OutsideScopeExample : Type 0
OutsideScopeExample =
    Plays limits outside_scope
    (ok ∷ ok ∷ Err OutsideScope ∷ Err NotNow ∷ ok ∷ ok ∷ ok ∷ ok ∷ [])
    (record {
      phasers = phases_of 0 0 [] ∷ [];
      tasks = refused_with 0 12 ∷ [];
      finishes = tasks_in 0 0 ∷ tasks_in 1 0 ∷ [];
      totals = in_all 1 0 0 1 0 0 0;
    })

-- the owner of finish 1 waits for a task that its child spawned: the first shut has to wait
abbrev pub nested_finish : List WorldEvent
nested_finish =
    Finish 1 (Opened 0)
    ∷ Begin 0 (Async 1 [])
    ∷ Finish 1 (Spawned 1)
    ∷ Begin 1 (Async 2 [])
    ∷ Finish 1 (Spawned 2)
    ∷ Begin 1 End
    ∷ Finish 1 (Ended 1)
    ∷ Begin 0 Shut
    ∷ Finish 1 Shutting
    ∷ Begin 2 Next
    ∷ Begin 2 End
    ∷ Finish 1 (Ended 2)
    ∷ Finish 1 Shutting
    ∷ Begin 0 End
    ∷ Finish 0 Shutting
    ∷ []

abbrev pub NestedFinish : Type 0
NestedFinish =
    Plays limits nested_finish
    (ok ∷ ok ∷ ok ∷ ok ∷ ok ∷ ok ∷ ok ∷ ok ∷ Ok NotYet ∷ ok ∷ ok ∷ ok ∷ ok ∷ ok ∷ ok ∷ [])
    (no_phasers (ended 0 ∷ ended 1 ∷ ended 2 ∷ []) (tasks_in 0 0 ∷ tasks_in 1 2 ∷ []))

-- by whom each of its events is made, the ninth, which isn't made, too
abbrev pub NestedFinishActors : Type 0
NestedFinishActors =
    actors limits [] nested_finish ≡ 0 ∷ 0 ∷ 0 ∷ 1 ∷ 1 ∷ 1 ∷ 1 ∷ 0 ∷ 0 ∷ 2 ∷ 2 ∷ 2 ∷ 0 ∷ 0 ∷ 0 ∷ []

-- fourteen events were made: the seventh is the end of task 1, the eleventh that of task 2, the twelfth the
-- shut of finish 1, the last that of finish 0
abbrev pub NestedFinishTrace : Type 0
NestedFinishTrace = reverse (played limits [] nested_finish) ≡
    Finish 1 (Opened 0)
    ∷ Begin 0 (Async 1 [])
    ∷ Finish 1 (Spawned 1)
    ∷ Begin 1 (Async 2 [])
    ∷ Finish 1 (Spawned 2)
    ∷ Begin 1 End
    ∷ Finish 1 (Ended 1)
    ∷ Begin 0 Shut
    ∷ Begin 2 Next
    ∷ Begin 2 End
    ∷ Finish 1 (Ended 2)
    ∷ Finish 1 Shutting
    ∷ Begin 0 End
    ∷ Finish 0 Shutting
    ∷ []

-- the owner leaves a phaser of its finish before it waits for the child, which waits there
abbrev pub owner_leaves : List WorldEvent
owner_leaves =
    Finish 1 (Opened 0)
    ∷ Phaser 0 (Make 0 SigWait plain)
    ∷ Begin 0 (Async 1 (on 0 OnlyWait ∷ []))
    ∷ Phaser 0 (Reg 0 1 OnlyWait)
    ∷ Finish 1 (Spawned 1)
    ∷ Begin 1 Next
    ∷ Phaser 0 (Pass 1)
    ∷ Begin 0 Shut
    ∷ Finish 1 Shutting
    ∷ Phaser 0 (Drop 0)
    ∷ Finish 1 Shutting
    ∷ Phaser 0 (Pass 1)
    ∷ Begin 1 End
    ∷ Phaser 0 (Drop 1)
    ∷ Finish 1 (Ended 1)
    ∷ Finish 1 Shutting
    ∷ Begin 0 End
    ∷ Finish 0 Shutting
    ∷ []

abbrev pub OwnerLeavesBeforeShut : Type 0
OwnerLeavesBeforeShut =
    Plays limits owner_leaves
    (ok ∷ ok ∷ ok ∷ ok ∷ ok ∷ ok ∷ Ok NotYet ∷ ok ∷ Err NotNow
    ∷ ok ∷ Ok NotYet ∷ Ok (Phase 0) ∷ ok ∷ ok ∷ ok ∷ ok ∷ ok ∷ ok ∷ [])
    (record {
      phasers = phases_of 0 1 [] ∷ [];
      tasks = ended 0 ∷ ended 1 ∷ [];
      finishes = tasks_in 0 0 ∷ tasks_in 1 1 ∷ [];
      totals = in_all 2 0 1 2 0 0 0;
    })
