-- Worked examples of turns: the events handed to a world, the reply to each, and what is reported at the end.
use Rattle.std.specs.Prelude.{ℕ, List, [], ◌∷◌, ◌++◌, Some, None, Result, Ok, Err, ℤ, pos}
use Rattle.phase_modes.specs.declared.refusal.Refusal.TheVariants.{NotSignalled, SingleMismatch, NotNow}
use Rattle.phase_modes.specs.declared.refusal.Refusal.{Refusal}
use Rattle.phase_modes.specs.declared.reg.Mode.TheVariants.{Sig as OnlySig, Wait as OnlyWait, SigWait, Single}
use Rattle.phase_model.specs.declared.op.Op.TheVariants.{Sum}
use Rattle.phase_model.specs.declared.op.Look.TheVariants.{Value as Saw}
use Rattle.finish_core.specs.declared.event.FinishEvent.TheVariants.{Spawned, Ended, Shut as Shutting}
use Rattle.world_model.specs.declared.reply.Reply.{Reply}
use Rattle.world_model.specs.declared.event.WorldEvent.{WorldEvent}
use Rattle.world_model.specs.declared.event.Step.TheVariants.{Make, Reg, Sig, Claim, Did, Pass, Send, Look, Drop}
use Rattle.world_model.specs.declared.event.Begun.TheVariants.{Async, Wait, Next, NextSingle, End}
use Rattle.world_model.specs.declared.event.Tried.TheVariants.{Begun as Beginning}
use Rattle.world_model.specs.declared.event.WorldEvent.TheVariants.{Phaser, Finish, Begin, Refuse, Fail}
use Rattle.world_model.specs.declared.reply.Reply.TheVariants.{Phase, Value, NotYet}
use Rattle.world_model.specs.ExampleWords.{ok, limits, on, tasks_in, Plays, ended, in_all, phases_of, refused_with, sum_is, plain, unbounded}

-- one task alone takes a turn, and ends
abbrev pub SmallestTrace : Type 0
SmallestTrace =
    Plays limits
    (Phaser 0 (Make 0 SigWait plain) ∷ Begin 0 Next ∷ Phaser 0 (Sig 0 None) ∷ Phaser 0 (Pass 0)
    ∷ Begin 0 End ∷ Phaser 0 (Drop 0) ∷ Finish 0 Shutting ∷ [])
    (ok ∷ ok ∷ ok ∷ Ok (Phase 0) ∷ ok ∷ ok ∷ ok ∷ [])
    (record {
      phasers = phases_of 0 1 [] ∷ [];
      tasks = ended 0 ∷ [];
      finishes = tasks_in 0 0 ∷ [];
      totals = in_all 1 1 1 1 0 0 0;
    })

-- two tasks, each a signaller of the phaser on which the other waits; the root leaves, and waits for both
abbrev pub two_spawned : List WorldEvent
two_spawned =
    Phaser 0 (Make 0 SigWait plain)
    ∷ Phaser 1 (Make 0 SigWait plain)
    ∷ Begin 0 (Async 1 (on 0 OnlySig ∷ on 1 OnlyWait ∷ []))
    ∷ Phaser 0 (Reg 0 1 OnlySig)
    ∷ Phaser 1 (Reg 0 1 OnlyWait)
    ∷ Finish 0 (Spawned 1)
    ∷ Begin 0 (Async 2 (on 1 OnlySig ∷ on 0 OnlyWait ∷ []))
    ∷ Phaser 1 (Reg 0 2 OnlySig)
    ∷ Phaser 0 (Reg 0 2 OnlyWait)
    ∷ Finish 0 (Spawned 2)
    ∷ Begin 0 End
    ∷ Phaser 0 (Drop 0)
    ∷ Phaser 1 (Drop 0)
    ∷ Finish 0 Shutting
    ∷ []

abbrev pub two_spawned_replies : List (Result Reply Refusal)
two_spawned_replies = ok ∷ ok ∷ ok ∷ ok ∷ ok ∷ ok ∷ ok ∷ ok ∷ ok ∷ ok ∷ ok ∷ ok ∷ ok ∷ Ok NotYet ∷ []

-- a turn of both: the first has to wait on phaser 1 until the second has signalled there
abbrev pub crossed_turn : List WorldEvent
crossed_turn =
    Begin 1 Next
    ∷ Phaser 0 (Sig 1 None)
    ∷ Phaser 0 (Pass 1)
    ∷ Phaser 1 (Pass 1)
    ∷ Begin 2 Next
    ∷ Phaser 1 (Sig 2 None)
    ∷ Phaser 1 (Pass 2)
    ∷ Phaser 0 (Pass 2)
    ∷ Phaser 1 (Pass 1)
    ∷ []

abbrev pub crossed_turn_replies : ℕ → List (Result Reply Refusal)
crossed_turn_replies p =
    ok ∷ ok ∷ Ok (Phase p) ∷ Ok NotYet ∷ ok ∷ ok ∷ Ok (Phase p) ∷ Ok (Phase p) ∷ Ok (Phase p) ∷ []

abbrev pub two_ends : List WorldEvent
two_ends =
    Begin 1 End
    ∷ Phaser 0 (Drop 1)
    ∷ Phaser 1 (Drop 1)
    ∷ Finish 0 (Ended 1)
    ∷ Begin 2 End
    ∷ Phaser 1 (Drop 2)
    ∷ Phaser 0 (Drop 2)
    ∷ Finish 0 (Ended 2)
    ∷ Finish 0 Shutting
    ∷ []

abbrev pub two_ends_replies : List (Result Reply Refusal)
two_ends_replies = ok ∷ ok ∷ ok ∷ ok ∷ ok ∷ ok ∷ ok ∷ ok ∷ ok ∷ []

-- three turns of both
abbrev pub CrossedSignals : Type 0
CrossedSignals =
    Plays limits
    (two_spawned ++ crossed_turn ++ crossed_turn ++ crossed_turn ++ two_ends)
    (two_spawned_replies
    ++ crossed_turn_replies 0 ++ crossed_turn_replies 1 ++ crossed_turn_replies 2 ++ two_ends_replies)
    (record {
      phasers = phases_of 0 3 [] ∷ phases_of 1 3 [] ∷ [];
      tasks = ended 0 ∷ ended 1 ∷ ended 2 ∷ [];
      finishes = tasks_in 0 2 ∷ [];
      totals = in_all 6 6 12 6 0 0 0;
    })

-- the same with a wait put first in the first child: it is refused, and the other goes on alone
abbrev pub lone_turn : List WorldEvent
lone_turn = Begin 2 Next ∷ Phaser 1 (Sig 2 None) ∷ Phaser 1 (Pass 2) ∷ Phaser 0 (Pass 2) ∷ []

abbrev pub lone_turn_replies : ℕ → List (Result Reply Refusal)
lone_turn_replies p = ok ∷ ok ∷ Ok (Phase p) ∷ Ok (Phase p) ∷ []

abbrev pub CrossedSignalsRefused : Type 0
CrossedSignalsRefused =
    Plays limits
    (two_spawned
    ++ (Begin 1 Wait ∷ Refuse 1 (Beginning Wait) 6
    ∷ Phaser 0 (Drop 1) ∷ Phaser 1 (Drop 1) ∷ Finish 0 (Ended 1) ∷ [])
    ++ lone_turn ++ lone_turn ++ lone_turn
    ++ (Begin 2 End ∷ Phaser 1 (Drop 2) ∷ Phaser 0 (Drop 2) ∷ Finish 0 (Ended 2) ∷ Finish 0 Shutting ∷ []))
    (two_spawned_replies
    ++ (Err NotSignalled ∷ ok ∷ ok ∷ ok ∷ ok ∷ [])
    ++ lone_turn_replies 0 ++ lone_turn_replies 1 ++ lone_turn_replies 2
    ++ (ok ∷ ok ∷ ok ∷ ok ∷ ok ∷ []))
    (record {
      phasers = phases_of 0 3 [] ∷ phases_of 1 3 [] ∷ [];
      tasks = ended 0 ∷ refused_with 1 6 ∷ ended 2 ∷ [];
      finishes = tasks_in 0 2 ∷ [];
      totals = in_all 6 3 6 6 0 0 0;
    })

-- two workers send for two phases, and the root leaves
abbrev pub sending_turn : ℤ → ℤ → List WorldEvent
sending_turn a b =
    Phaser 0 (Send 1 0 a)
    ∷ Begin 1 Next
    ∷ Phaser 0 (Sig 1 None)
    ∷ Phaser 0 (Send 2 0 b)
    ∷ Begin 2 Next
    ∷ Phaser 0 (Pass 1)
    ∷ Phaser 0 (Sig 2 None)
    ∷ Phaser 0 (Pass 2)
    ∷ Phaser 0 (Pass 1)
    ∷ []

abbrev pub sending_turn_replies : ℕ → List (Result Reply Refusal)
sending_turn_replies p = ok ∷ ok ∷ ok ∷ ok ∷ ok ∷ Ok NotYet ∷ ok ∷ Ok (Phase p) ∷ Ok (Phase p) ∷ []

abbrev pub TwoSenders : Type 0
TwoSenders =
    Plays limits
    (Phaser 0 (Make 0 SigWait (unbounded (Sum ∷ [])))
    ∷ Begin 0 (Async 1 (on 0 SigWait ∷ []))
    ∷ Phaser 0 (Reg 0 1 SigWait)
    ∷ Finish 0 (Spawned 1)
    ∷ Begin 0 (Async 2 (on 0 SigWait ∷ []))
    ∷ Phaser 0 (Reg 0 2 SigWait)
    ∷ Finish 0 (Spawned 2)
    ∷ Begin 0 End
    ∷ Phaser 0 (Drop 0)
    ∷ sending_turn (pos 1) (pos 2)
    ++ sending_turn (pos 10) (pos 20)
    ++ (Begin 1 End ∷ Phaser 0 (Drop 1) ∷ Finish 0 (Ended 1)
    ∷ Begin 2 End ∷ Phaser 0 (Drop 2) ∷ Finish 0 (Ended 2) ∷ Finish 0 Shutting ∷ []))
    (ok ∷ ok ∷ ok ∷ ok ∷ ok ∷ ok ∷ ok ∷ ok ∷ ok
    ∷ sending_turn_replies 0 ++ sending_turn_replies 1 ++ (ok ∷ ok ∷ ok ∷ ok ∷ ok ∷ ok ∷ ok ∷ []))
    (record {
      phasers = phases_of 0 2 (sum_is 0 3 ∷ sum_is 1 30 ∷ []) ∷ [];
      tasks = ended 0 ∷ ended 1 ∷ ended 2 ∷ [];
      finishes = tasks_in 0 2 ∷ [];
      totals = in_all 3 4 4 3 4 33 0;
    })

-- a signaller that may be one phase ahead of a slow reader, so far: the next signal has to wait for the reader
abbrev pub bounded_start : List WorldEvent
bounded_start =
    Phaser 0 (Make 0 SigWait (record { ops = Sum ∷ []; bound = Some 1 }))
    ∷ Begin 0 (Async 1 (on 0 OnlySig ∷ []))
    ∷ Phaser 0 (Reg 0 1 OnlySig)
    ∷ Finish 0 (Spawned 1)
    ∷ Begin 0 (Async 2 (on 0 OnlyWait ∷ []))
    ∷ Phaser 0 (Reg 0 2 OnlyWait)
    ∷ Finish 0 (Spawned 2)
    ∷ Begin 0 End
    ∷ Phaser 0 (Drop 0)
    ∷ Phaser 0 (Send 1 0 (pos 1))
    ∷ Begin 1 Next
    ∷ Phaser 0 (Sig 1 None)
    ∷ Phaser 0 (Pass 1)
    ∷ Phaser 0 (Send 1 0 (pos 1))
    ∷ Begin 1 Next
    ∷ Phaser 0 (Sig 1 None)
    ∷ []

-- the reader takes a turn and looks, and so the signaller goes on
abbrev pub reader_turn : List WorldEvent
reader_turn = Begin 2 Next ∷ Phaser 0 (Pass 2) ∷ Phaser 0 (Look 2 0) ∷ []

abbrev pub reader_turn_replies : ℕ → List (Result Reply Refusal)
reader_turn_replies p = ok ∷ Ok (Phase p) ∷ Ok (Value (Saw (pos 1))) ∷ []

-- three phases of one value each
abbrev pub BoundedProducer : Type 0
BoundedProducer =
    Plays limits
    (bounded_start
    ++ reader_turn
    ++ (Phaser 0 (Sig 1 None)
    ∷ Phaser 0 (Pass 1)
    ∷ Phaser 0 (Send 1 0 (pos 1))
    ∷ Begin 1 Next
    ∷ Phaser 0 (Sig 1 None)
    ∷ [])
    ++ reader_turn
    ++ (Phaser 0 (Sig 1 None)
    ∷ Phaser 0 (Pass 1)
    ∷ [])
    ++ reader_turn
    ++ (Begin 1 End ∷ Phaser 0 (Drop 1) ∷ Finish 0 (Ended 1)
    ∷ Begin 2 End ∷ Phaser 0 (Drop 2) ∷ Finish 0 (Ended 2) ∷ Finish 0 Shutting ∷ []))
    ((ok ∷ ok ∷ ok ∷ ok ∷ ok ∷ ok ∷ ok ∷ ok ∷ ok
    ∷ ok ∷ ok ∷ ok ∷ Ok (Phase 0) ∷ ok ∷ ok ∷ Ok NotYet ∷ [])
    ++ reader_turn_replies 0
    ++ (ok ∷ Ok (Phase 1) ∷ ok ∷ ok ∷ Ok NotYet ∷ [])
    ++ reader_turn_replies 1
    ++ (ok ∷ Ok (Phase 2) ∷ [])
    ++ reader_turn_replies 2
    ++ (ok ∷ ok ∷ ok ∷ ok ∷ ok ∷ ok ∷ ok ∷ []))
    (record {
      phasers = phases_of 0 3 (sum_is 0 1 ∷ sum_is 1 1 ∷ sum_is 2 1 ∷ []) ∷ [];
      tasks = ended 0 ∷ ended 1 ∷ ended 2 ∷ [];
      finishes = tasks_in 0 2 ∷ [];
      totals = in_all 3 3 6 3 3 3 0;
    })

-- one statement for two proposers and a plain waiter, so far: another number makes its task fail, the first
-- proposer claims, and the others wait for its report
abbrev pub one_single : List WorldEvent
one_single =
    Phaser 0 (Make 0 Single plain)
    ∷ Begin 0 (Async 1 (on 0 Single ∷ []))
    ∷ Phaser 0 (Reg 0 1 Single)
    ∷ Finish 0 (Spawned 1)
    ∷ Begin 0 (Async 2 (on 0 OnlyWait ∷ []))
    ∷ Phaser 0 (Reg 0 2 OnlyWait)
    ∷ Finish 0 (Spawned 2)
    ∷ Begin 0 (NextSingle 7)
    ∷ Phaser 0 (Sig 0 None)
    ∷ Phaser 0 (Sig 0 (Some 7))
    ∷ Phaser 0 (Pass 0)
    ∷ Begin 1 (NextSingle 8)
    ∷ Phaser 0 (Sig 1 (Some 8))
    ∷ Fail 1 7
    ∷ Phaser 0 (Drop 1)
    ∷ Begin 2 Wait
    ∷ Phaser 0 (Pass 2)
    ∷ Phaser 0 (Pass 0)
    ∷ Phaser 0 (Claim 0)
    ∷ Phaser 0 (Pass 2)
    ∷ Phaser 0 (Pass 0)
    ∷ Phaser 0 (Did 0)
    ∷ Phaser 0 (Pass 2)
    ∷ Phaser 0 (Pass 0)
    ∷ []

abbrev pub OneSingle : Type 0
OneSingle =
    Plays limits one_single
    (ok ∷ ok ∷ ok ∷ ok ∷ ok ∷ ok ∷ ok ∷ ok
    ∷ Err NotNow ∷ ok ∷ Ok NotYet ∷ ok ∷ Err SingleMismatch ∷ ok ∷ ok ∷ ok ∷ Ok NotYet
    ∷ Err NotNow ∷ ok ∷ Ok NotYet ∷ Err NotNow ∷ ok ∷ Ok (Phase 0) ∷ Ok (Phase 0) ∷ [])
    (record {
      phasers = phases_of 0 1 [] ∷ [];
      tasks = ended 0 ∷ refused_with 1 7 ∷ ended 2 ∷ [];
      finishes = tasks_in 0 2 ∷ [];
      totals = in_all 3 1 2 1 0 0 0;
    })
