-- Worked examples of single moments: the reply that each of several events would have there, what comes next,
-- and what each task is about.
use Rattle.std.specs.Prelude.{◌≡◌, true, false, List, [], ◌∷◌, map, Some, None, Ok, Err, pos, take}
use Rattle.phase_modes.specs.declared.refusal.Refusal.TheVariants.{NotRegistered, NoSignal, NoWait, NotSignalled, OnePhaserOnly, NoAccumulator, MoreThanParent, RegisteredTwice, PhasersFull, TasksFull, FinishesFull, NoFinish, NotNow}
use Rattle.phase_modes.specs.declared.reg.Mode.TheVariants.{Sig as OnlySig, SigWait, Wait as OnlyWait}
use Rattle.finish_core.specs.declared.event.FinishEvent.TheVariants.{Ended, Opened, Spawned, Shut as Shutting}
use Rattle.world_model.specs.declared.event.WorldEvent.{WorldEvent}
use Rattle.world_model.specs.declared.event.Begun.TheVariants.{Async, End, Next, NextSingle, Shut, Signal, Wait}
use Rattle.world_model.specs.declared.event.Step.TheVariants.{Claim, Did, Drop, Look, Make, Pass, Reg, Send, Sig}
use Rattle.world_model.specs.declared.event.Tried.TheVariants.{Begun as Beginning}
use Rattle.world_model.specs.declared.event.WorldEvent.TheVariants.{Begin, Fail, Finish, Phaser, Refuse}
use Rattle.world_model.specs.declared.condition.Condition.TheVariants as condition
use Rattle.world_model.specs.declared.reply.Reply.TheVariants.{NotYet, Phase}
use Rattle.world_model.specs.Clock.{clock}
use Rattle.world_model.specs.TaskConditions.{condition_of}
use Rattle.world_model.specs.TurnExamples.{bounded_start, crossed_turn, two_spawned, one_single}
use Rattle.world_model.specs.LimitExamples.{half_spawned, two_regs}
use Rattle.world_model.specs.ExampleWords.{played, on, ok, limits, plain}
use Rattle.world_model.specs.Able.{is_able}
use Rattle.world_model.specs.Due.{next_event}
use Rattle.world_model.specs.Replies.{reply}

-- task 1 is a signaller of phaser 0 and a waiter of phaser 1, tasks 1 and 2 are idle, the root has left
abbrev pub left : List WorldEvent
left = played limits [] two_spawned

-- an idle task: each act that it may try, and what isn't for it to make
abbrev pub AskedIdle : Type 0
AskedIdle =
    map (reply limits left) (
    Begin 1 Signal ∷ Begin 1 Wait ∷ Begin 1 Next ∷ Begin 1 (NextSingle 3) ∷ Begin 1 Shut ∷ Begin 1 End
    ∷ Phaser 0 (Send 1 0 (pos 1)) ∷ Phaser 1 (Send 1 0 (pos 1))
    ∷ Phaser 0 (Look 1 0) ∷ Phaser 1 (Look 1 0) ∷ Phaser 5 (Look 1 0)
    ∷ Phaser 0 (Make 1 SigWait plain) ∷ Phaser 2 (Make 1 SigWait plain) ∷ Phaser 64 (Make 1 SigWait plain)
    ∷ Finish 0 (Opened 1) ∷ Finish 1 (Opened 1) ∷ Finish 64 (Opened 1)
    ∷ Begin 1 (Async 2 []) ∷ Begin 1 (Async 3 []) ∷ Begin 1 (Async 256 [])
    ∷ Begin 1 (Async 3 (on 2 OnlySig ∷ [])) ∷ Begin 1 (Async 3 (on 0 SigWait ∷ []))
    ∷ Begin 1 (Async 3 (on 0 OnlySig ∷ on 0 SigWait ∷ []))
    ∷ Begin 1 (Async 3 (on 0 OnlySig ∷ on 1 OnlyWait ∷ on 0 OnlySig ∷ []))
    ∷ Phaser 0 (Sig 1 None) ∷ Phaser 0 (Pass 1) ∷ Phaser 0 (Drop 1)
    ∷ Finish 0 (Ended 1) ∷ Finish 0 Shutting ∷ Finish 0 (Spawned 3)
    ∷ Fail 1 23 ∷ Fail 1 15 ∷ Fail 1 14
    ∷ Refuse 1 (Beginning Wait) 6 ∷ Refuse 1 (Beginning Wait) 5
    ∷ Refuse 1 (Beginning Next) 22 ∷ Refuse 1 (Beginning (Async 2 [])) 22 ∷ [])
    ≡ ok ∷ Err NotSignalled ∷ ok ∷ Err OnePhaserOnly ∷ Err NoFinish ∷ ok
    ∷ Err NoAccumulator ∷ Err NoSignal
    ∷ Err NoWait ∷ Err NoAccumulator ∷ Err NotRegistered
    ∷ Err NotNow ∷ ok ∷ Err PhasersFull
    ∷ Err NotNow ∷ ok ∷ Err FinishesFull
    ∷ Err NotNow ∷ ok ∷ Err TasksFull
    ∷ Err NotRegistered ∷ Err MoreThanParent
    ∷ Err MoreThanParent
    ∷ Err RegisteredTwice
    ∷ Err NotNow ∷ Err NotNow ∷ Err NotNow
    ∷ Err NotNow ∷ Ok NotYet ∷ Err NotNow
    ∷ ok ∷ Err NotNow ∷ Err NotNow
    ∷ ok ∷ Err NotNow
    ∷ Err NotNow ∷ Err NotNow ∷ []

-- task 1 in the middle of its turn: it has signalled, and has to pass phaser 0 first
abbrev pub turning : List WorldEvent
turning = played limits left (take 2 crossed_turn)

abbrev pub AskedTurning : Type 0
AskedTurning =
    (map (reply limits turning) (
    Phaser 0 (Pass 1) ∷ Phaser 1 (Pass 1) ∷ Begin 1 Next ∷ Phaser 0 (Sig 1 None) ∷ Begin 1 End
    ∷ Phaser 2 (Make 1 SigWait plain) ∷ Fail 1 15 ∷ Fail 1 23 ∷ Begin 7 End ∷ [])
    ≡ Ok (Phase 0) ∷ Err NotNow ∷ Err NotNow ∷ Err NotNow ∷ Err NotNow
    ∷ Err NotNow ∷ Err NotNow ∷ Err NotNow ∷ Err NotNow ∷ [])
    × (map (λ t. condition_of t turning) (0 ∷ 1 ∷ 2 ∷ 3 ∷ [])
    ≡ Some condition.Ending ∷ Some condition.Turning ∷ Some condition.Idle ∷ None ∷ [])

-- a spawn under way: it may be given up before a registration is refused
abbrev pub spawning : List WorldEvent
spawning = played two_regs [] (take 6 half_spawned)

abbrev pub AskedSpawning : Type 0
AskedSpawning =
    (map (reply two_regs spawning) (
    Fail 0 14 ∷ Phaser 0 (Reg 0 2 OnlySig) ∷ Phaser 1 (Reg 0 2 OnlySig) ∷ Phaser 0 (Reg 0 2 SigWait)
    ∷ Finish 0 (Spawned 2) ∷ Begin 2 Next ∷ [])
    ≡ ok ∷ ok ∷ Err NotNow ∷ Err NotNow ∷ Err NotNow ∷ Err NotNow ∷ [])
    × (next_event two_regs 0 spawning ≡ Some (Phaser 0 (Reg 0 2 OnlySig)))
    × (map (λ t. condition_of t spawning) (0 ∷ 1 ∷ 2 ∷ [])
    ≡ Some condition.Spawning ∷ Some condition.Idle ∷ None ∷ [])

-- a task that is held at a signal by the bound: it may do nothing else, and it may not give up
abbrev pub held : List WorldEvent
held = played limits [] bounded_start

abbrev pub AskedHeld : Type 0
AskedHeld =
    (map (reply limits held) (
    Phaser 0 (Sig 1 None) ∷ Phaser 0 (Pass 1) ∷ Phaser 0 (Send 1 0 (pos 1)) ∷ Fail 1 7 ∷ Fail 1 15 ∷ Begin 2 Next
    ∷ [])
    ≡ Ok NotYet ∷ Err NotNow ∷ Err NotNow ∷ Err NotNow ∷ Err NotNow ∷ ok ∷ [])
    × (next_event limits 1 held ≡ Some (Phaser 0 (Sig 1 None)))
    × (map (λ t. condition_of t held) (1 ∷ 2 ∷ []) ≡ Some condition.Signalling ∷ Some condition.Idle ∷ [])
    × (map (λ t. is_able limits held t) (1 ∷ 2 ∷ []) ≡ false ∷ true ∷ [])

-- what comes next for a proposer whose phase is closed, and for one that has claimed
abbrev pub NextOfSingle : Type 0
NextOfSingle =
    (next_event limits 0 (played limits [] (take 17 one_single)) ≡ Some (Phaser 0 (Claim 0)))
    × (next_event limits 0 (played limits [] (take 20 one_single)) ≡ Some (Phaser 0 (Did 0)))

-- clocks after a turn of both tasks
abbrev pub ClocksAfterTurn : Type 0
ClocksAfterTurn = map (λ t. clock t (played limits left crossed_turn)) (0 ∷ 1 ∷ 2 ∷ []) ≡ 0 ∷ 1 ∷ 1 ∷ []
