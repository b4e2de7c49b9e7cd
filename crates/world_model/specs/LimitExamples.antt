-- Worked examples of limits and of refused acts: the events handed to a world,
-- the reply to each, and what is reported at the end.
use Rattle.std.specs.Prelude.{List, [], ◌∷◌, None, Ok, Err, pos}
use Rattle.phase_modes.specs.declared.refusal.Refusal.TheVariants.{NotRegistered, OnePhaserOnly, RegsFull, HistoryFull, PhasersFull, TasksFull, FinishesFull, ActsFull, FinishOpen, NoFinish, NotNow}
use Rattle.phase_modes.specs.declared.limits.Limits.{Limits}
use Rattle.phase_modes.specs.declared.reg.Mode.TheVariants.{Sig as OnlySig, Wait as OnlyWait, SigWait}
use Rattle.phase_model.specs.declared.op.Op.TheVariants.{Sum}
use Rattle.finish_core.specs.declared.event.FinishEvent.TheVariants.{Opened, Spawned, Ended, Shut as Shutting}
use Rattle.world_model.specs.declared.event.WorldEvent.{WorldEvent}
use Rattle.world_model.specs.declared.event.Step.TheVariants.{Make, Reg, Sig, Pass, Send, Drop}
use Rattle.world_model.specs.declared.event.Begun.TheVariants.{Async, Next, NextSingle, Shut, End}
use Rattle.world_model.specs.declared.event.Tried.TheVariants.{Begun as Beginning, New, Open, Send as Sending}
use Rattle.world_model.specs.declared.event.WorldEvent.TheVariants.{Phaser, Finish, Begin, Refuse, Fail}
use Rattle.world_model.specs.declared.reply.Reply.TheVariants.{Phase, NotYet}
use Rattle.world_model.specs.ExampleWords.{ok, limits, on, tasks_in, Plays, ended, in_all, phases_of, refused_with, no_phasers, sum_is, plain, unbounded}

-- limits that the root meets: of acts
abbrev pub ActsFullExample : Type 0
ActsFullExample =
    Plays (record limits { acts = 2 })
    (Begin 0 Next ∷ Begin 0 Next ∷ Begin 0 Next ∷ Refuse 0 (Beginning Next) 19 ∷ Finish 0 Shutting ∷ [])
    (ok ∷ ok ∷ Err ActsFull ∷ ok ∷ ok ∷ [])
    (no_phasers (refused_with 0 19 ∷ []) (tasks_in 0 0 ∷ []))

-- of tasks
abbrev pub TasksFullExample : Type 0
TasksFullExample =
    Plays (record limits { tasks = 1 })
    (Begin 0 (Async 1 []) ∷ Refuse 0 (Beginning (Async 1 [])) 17 ∷ Finish 0 Shutting ∷ [])
    (Err TasksFull ∷ ok ∷ ok ∷ [])
    (no_phasers (refused_with 0 17 ∷ []) (tasks_in 0 0 ∷ []))

-- of finishes
abbrev pub FinishesFullExample : Type 0
FinishesFullExample =
    Plays (record limits { finishes = 1 })
    (Finish 1 (Opened 0) ∷ Refuse 0 (Open 1) 18 ∷ Finish 0 Shutting ∷ [])
    (Err FinishesFull ∷ ok ∷ ok ∷ [])
    (no_phasers (refused_with 0 18 ∷ []) (tasks_in 0 0 ∷ []))

-- of phasers
abbrev pub PhasersFullExample : Type 0
PhasersFullExample =
    Plays (record limits { phasers = 1 })
    (Phaser 0 (Make 0 OnlySig plain) ∷ Phaser 1 (Make 0 OnlySig plain) ∷ Refuse 0 (New 1 OnlySig plain) 16
    ∷ Phaser 0 (Drop 0) ∷ Finish 0 Shutting ∷ [])
    (ok ∷ Err PhasersFull ∷ ok ∷ ok ∷ ok ∷ [])
    (record {
      phasers = phases_of 0 0 [] ∷ [];
      tasks = refused_with 0 16 ∷ [];
      finishes = tasks_in 0 0 ∷ [];
      totals = in_all 1 0 0 1 0 0 0;
    })

-- acts that the root is refused: an end inside an open finish
abbrev pub FinishOpenExample : Type 0
FinishOpenExample =
    Plays limits
    (Finish 1 (Opened 0) ∷ Begin 0 End ∷ Refuse 0 (Beginning End) 20
    ∷ Finish 1 Shutting ∷ Finish 0 Shutting ∷ [])
    (ok ∷ Err FinishOpen ∷ ok ∷ ok ∷ ok ∷ [])
    (no_phasers (refused_with 0 20 ∷ []) (tasks_in 0 0 ∷ tasks_in 1 0 ∷ []))

-- a shut of none
abbrev pub NoFinishExample : Type 0
NoFinishExample =
    Plays limits
    (Begin 0 Shut ∷ Refuse 0 (Beginning Shut) 21 ∷ Finish 0 Shutting ∷ [])
    (Err NoFinish ∷ ok ∷ ok ∷ [])
    (no_phasers (refused_with 0 21 ∷ []) (tasks_in 0 0 ∷ []))

-- a single without a phaser
abbrev pub OnePhaserOnlyExample : Type 0
OnePhaserOnlyExample =
    Plays limits
    (Begin 0 (NextSingle 1) ∷ Refuse 0 (Beginning (NextSingle 1)) 8 ∷ Finish 0 Shutting ∷ [])
    (Err OnePhaserOnly ∷ ok ∷ ok ∷ [])
    (no_phasers (refused_with 0 8 ∷ []) (tasks_in 0 0 ∷ []))

-- a value for a phaser that isn't there
abbrev pub NotRegisteredExample : Type 0
NotRegisteredExample =
    Plays limits
    (Phaser 4294967295 (Send 0 0 (pos 1)) ∷ Refuse 0 (Sending 4294967295 0 (pos 1)) 1
    ∷ Finish 0 Shutting ∷ [])
    (Err NotRegistered ∷ ok ∷ ok ∷ [])
    (no_phasers (refused_with 0 1 ∷ []) (tasks_in 0 0 ∷ []))

-- a spawn that fails halfway: the child that was never spawned leaves its phaser first
abbrev pub two_regs : Limits
two_regs = record limits { regs = 2 }

abbrev pub half_spawned : List WorldEvent
half_spawned =
    Phaser 0 (Make 0 SigWait plain)
    ∷ Phaser 1 (Make 0 SigWait plain)
    ∷ Begin 0 (Async 1 (on 1 OnlyWait ∷ []))
    ∷ Phaser 1 (Reg 0 1 OnlyWait)
    ∷ Finish 0 (Spawned 1)
    ∷ Begin 0 (Async 2 (on 0 OnlySig ∷ on 1 OnlySig ∷ []))
    ∷ Phaser 0 (Reg 0 2 OnlySig)
    ∷ Phaser 1 (Reg 0 2 OnlySig)
    ∷ Fail 0 14
    ∷ Phaser 0 (Drop 0)
    ∷ Phaser 0 (Drop 2)
    ∷ Phaser 0 (Drop 0)
    ∷ Begin 1 Next
    ∷ Phaser 1 (Pass 1)
    ∷ Phaser 1 (Drop 0)
    ∷ Finish 0 Shutting
    ∷ Phaser 1 (Pass 1)
    ∷ Begin 1 End
    ∷ Phaser 1 (Drop 1)
    ∷ Finish 0 (Ended 1)
    ∷ Finish 0 Shutting
    ∷ []

abbrev pub UnbornChildDropped : Type 0
UnbornChildDropped =
    Plays two_regs half_spawned
    (ok ∷ ok ∷ ok ∷ ok ∷ ok ∷ ok ∷ ok
    ∷ Err RegsFull ∷ ok ∷ Err NotNow ∷ ok ∷ ok
    ∷ ok ∷ Ok NotYet ∷ ok ∷ Ok NotYet ∷ Ok (Phase 0) ∷ ok ∷ ok ∷ ok ∷ ok ∷ [])
    (record {
      phasers = phases_of 0 0 [] ∷ phases_of 1 1 [] ∷ [];
      tasks = refused_with 0 14 ∷ ended 1 ∷ [];
      finishes = tasks_in 0 1 ∷ [];
      totals = in_all 4 0 1 4 0 0 0;
    })

-- a history that is full in the middle of a turn: what the turn had already made stays
abbrev pub HistoryFullInNext : Type 0
HistoryFullInNext =
    Plays (record limits { history = 5 })
    (Phaser 0 (Make 0 SigWait plain)
    ∷ Phaser 1 (Make 0 SigWait (unbounded (Sum ∷ [])))
    ∷ Phaser 1 (Send 0 0 (pos 7))
    ∷ Begin 0 Next
    ∷ Phaser 0 (Sig 0 None)
    ∷ Phaser 1 (Sig 0 None)
    ∷ Phaser 0 (Pass 0)
    ∷ Phaser 1 (Pass 0)
    ∷ Begin 0 Next
    ∷ Phaser 0 (Sig 0 None)
    ∷ Phaser 1 (Sig 0 None)
    ∷ Fail 0 14
    ∷ Fail 0 15
    ∷ Phaser 0 (Drop 0)
    ∷ Phaser 1 (Drop 0)
    ∷ Finish 0 Shutting
    ∷ [])
    (ok ∷ ok ∷ ok ∷ ok ∷ ok ∷ ok ∷ Ok (Phase 0) ∷ Ok (Phase 0)
    ∷ ok ∷ ok ∷ Err HistoryFull ∷ Err NotNow ∷ ok ∷ ok ∷ ok ∷ ok ∷ [])
    (record {
      phasers = phases_of 0 2 [] ∷ phases_of 1 1 (sum_is 0 7 ∷ []) ∷ [];
      tasks = refused_with 0 15 ∷ [];
      finishes = tasks_in 0 0 ∷ [];
      totals = in_all 2 3 2 2 1 7 0;
    })
