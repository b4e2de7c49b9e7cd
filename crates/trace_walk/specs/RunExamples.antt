-- Worked examples of runs: what a program gives, by rounds alone and by picks.
use Rattle.std.specs.Prelude.{ℕ, ◌≡◌, List, [], ◌∷◌, ◌++◌, reverse, replicate, Some, None, pos}
use Rattle.phase_modes.specs.declared.reg.Mode.TheVariants.{Sig as OnlySig, Wait as OnlyWait, SigWait}
use Rattle.phase_model.specs.declared.op.Op.TheVariants.{Sum}
use Rattle.job_script.specs.declared.head.Head.TheVariants.{New, Async, OpenFinish, ShutFinish, Wait, Next, Send, Look, Repeat}
use Rattle.job_script.specs.Acts.{Act}
use Rattle.job_script.specs.Program.{Program}
use Rattle.finish_core.specs.declared.event.FinishEvent.TheVariants.{Opened, Spawned, Ended, Shut as Shutting}
use Rattle.world_model.specs.declared.event.Step.TheVariants.{Make, Reg}
use Rattle.world_model.specs.declared.event.Begun.TheVariants.{Async as Spawning, Next as Turning, Shut, End}
use Rattle.world_model.specs.declared.event.WorldEvent.TheVariants.{Phaser, Finish, Begin}
use Rattle.world_model.specs.declared.report.TaskLine.{TaskLine}
use Rattle.world_model.specs.declared.report.TotalsLine.{TotalsLine}
use Rattle.world_model.specs.ExampleWords as worlds
use Rattle.world_model.specs.ExampleWords.{ended, refused_with, in_all, no_phasers, phases_of, sum_is, tasks_in, unbounded}
use Rattle.world_model.specs.Report.{Report}
use Rattle.trace_walk.specs.Picks.{picked}
use Rattle.trace_walk.specs.ExampleWords.{ComesTo, on, plain, program, root_alone, run, within}

-- ---- nothing to do

abbrev pub nothing_to_do : Program
nothing_to_do = program []

abbrev pub NothingToDo : Type 0
NothingToDo =
    (reverse (run nothing_to_do []) ≡ Begin 0 End ∷ Finish 0 Shutting ∷ [])
    × ComesTo nothing_to_do [] (root_alone None (tasks_in 0 0 ∷ []))

-- ---- a child may not have a phaser of an outer finish

abbrev pub outside_scope : Program
outside_scope = program (
    plain (New 0 SigWait (unbounded []))
    ∷ plain OpenFinish
    ∷ within (Async (on 0 OnlySig ∷ [])) (plain Next ∷ [])
    ∷ plain ShutFinish
    ∷ [])

abbrev pub OutsideScope : Type 0
OutsideScope = ComesTo outside_scope [] (record {
  phasers = phases_of 0 0 [] ∷ [];
  tasks = refused_with 0 12 ∷ [];
  finishes = tasks_in 0 0 ∷ tasks_in 1 0 ∷ [];
  totals = in_all 1 0 0 1 0 0 0;
})

-- ---- two tasks send for two phases

abbrev pub two_senders : Program
two_senders = program (
    plain (New 0 SigWait (unbounded (Sum ∷ [])))
    ∷ within (Async (on 0 SigWait ∷ []))
    (plain (Send 0 0 (pos 1)) ∷ plain Next ∷ plain (Send 0 0 (pos 10)) ∷ plain Next ∷ [])
    ∷ within (Async (on 0 SigWait ∷ []))
    (plain (Send 0 0 (pos 2)) ∷ plain Next ∷ plain (Send 0 0 (pos 20)) ∷ plain Next ∷ [])
    ∷ [])

abbrev pub two_senders_report : Report
two_senders_report = record {
  phasers = phases_of 0 2 (sum_is 0 3 ∷ sum_is 1 30 ∷ []) ∷ [];
  tasks = ended 0 ∷ ended 1 ∷ ended 2 ∷ [];
  finishes = tasks_in 0 2 ∷ [];
  totals = in_all 3 4 4 3 4 33 0;
}

-- the picks of a task that is unknown, blocked or not born change nothing
abbrev pub some_picks : List ℕ
some_picks = 9 ∷ 0 ∷ 0 ∷ 1 ∷ 0 ∷ []

abbrev pub TwoSenders : Type 0
TwoSenders = ComesTo two_senders [] two_senders_report

abbrev pub TwoSendersPicked : Type 0
TwoSendersPicked =
    (reverse (picked two_senders [] some_picks)
    ≡ Phaser 0 (Make 0 SigWait (unbounded (Sum ∷ [])))
    ∷ Begin 0 (Spawning 1 (worlds.on 0 SigWait ∷ []))
    ∷ Phaser 0 (Reg 0 1 SigWait)
    ∷ [])
    × ComesTo two_senders some_picks two_senders_report

-- ---- the owner waits for a task that a child spawned

abbrev pub nested_finish : Program
nested_finish = program (
    plain OpenFinish
    ∷ within (Async []) (within (Async []) (plain Next ∷ []) ∷ [])
    ∷ plain ShutFinish
    ∷ [])

-- fifteen picks, of which the ninth is blocked; the run is over with the last
abbrev pub nested_picks : List ℕ
nested_picks = 0 ∷ 0 ∷ 0 ∷ 1 ∷ 1 ∷ 1 ∷ 1 ∷ 0 ∷ 0 ∷ 2 ∷ 2 ∷ 2 ∷ 0 ∷ 0 ∷ 0 ∷ []

abbrev pub NestedFinishEvents : Type 0
NestedFinishEvents =
    reverse (picked nested_finish [] nested_picks)
    ≡ Finish 1 (Opened 0)
    ∷ Begin 0 (Spawning 1 [])
    ∷ Finish 1 (Spawned 1)
    ∷ Begin 1 (Spawning 2 [])
    ∷ Finish 1 (Spawned 2)
    ∷ Begin 1 End
    ∷ Finish 1 (Ended 1)
    ∷ Begin 0 Shut
    ∷ Begin 2 Turning
    ∷ Begin 2 End
    ∷ Finish 1 (Ended 2)
    ∷ Finish 1 Shutting
    ∷ Begin 0 End
    ∷ Finish 0 Shutting
    ∷ []

abbrev pub nested_finish_report : Report
nested_finish_report = no_phasers (ended 0 ∷ ended 1 ∷ ended 2 ∷ []) (tasks_in 0 0 ∷ tasks_in 1 2 ∷ [])

abbrev pub NestedFinish : Type 0
NestedFinish = ComesTo nested_finish nested_picks nested_finish_report
    × ComesTo nested_finish [] nested_finish_report

-- ---- two tasks, each a signaller of the phaser on which the other waits

-- the first child makes these acts before its turns
abbrev pub crossed_with : List Act → Program
crossed_with first = program (
    plain (New 0 SigWait (unbounded []))
    ∷ plain (New 1 SigWait (unbounded []))
    ∷ within (Async (on 0 OnlySig ∷ on 1 OnlyWait ∷ [])) (first ++ within (Repeat 3) (plain Next ∷ []) ∷ [])
    ∷ within (Async (on 1 OnlySig ∷ on 0 OnlyWait ∷ [])) (within (Repeat 3) (plain Next ∷ []) ∷ [])
    ∷ [])

abbrev pub crossed_report : TaskLine → TotalsLine → Report
crossed_report of_first totals = record {
  phasers = phases_of 0 3 [] ∷ phases_of 1 3 [] ∷ [];
  tasks = ended 0 ∷ of_first ∷ ended 2 ∷ [];
  finishes = tasks_in 0 2 ∷ [];
  totals = totals;
}

abbrev pub CrossedSignals : Type 0
CrossedSignals = ComesTo (crossed_with []) [] (crossed_report (ended 1) (in_all 6 6 12 6 0 0 0))

-- the picks repeat the first child fifty times
abbrev pub CrossedSignalsByOne : Type 0
CrossedSignalsByOne = ComesTo (crossed_with []) (replicate 50 1)
    (crossed_report (ended 1) (in_all 6 6 12 6 0 0 0))

-- a wait put first in the first child is refused, and the other goes on alone
abbrev pub CrossedSignalsRefused : Type 0
CrossedSignalsRefused = ComesTo (crossed_with (plain Wait ∷ [])) []
    (crossed_report (refused_with 1 6) (in_all 6 3 6 6 0 0 0))

-- ---- a signaller that may be one phase ahead of a reader

abbrev pub bounded_producer : Program
bounded_producer = program (
    plain (New 0 SigWait (record { ops = Sum ∷ []; bound = Some 1 }))
    ∷ within (Async (on 0 OnlySig ∷ [])) (within (Repeat 3) (plain (Send 0 0 (pos 1)) ∷ plain Next ∷ []) ∷ [])
    ∷ within (Async (on 0 OnlyWait ∷ [])) (within (Repeat 3) (plain Next ∷ plain (Look 0 0) ∷ []) ∷ [])
    ∷ [])

abbrev pub bounded_report : Report
bounded_report = record {
  phasers = phases_of 0 3 (sum_is 0 1 ∷ sum_is 1 1 ∷ sum_is 2 1 ∷ []) ∷ [];
  tasks = ended 0 ∷ ended 1 ∷ ended 2 ∷ [];
  finishes = tasks_in 0 2 ∷ [];
  totals = in_all 3 3 6 3 3 3 0;
}

-- by rounds alone, and if the signaller is picked as long as it goes on, and longer
abbrev pub BoundedProducer : Type 0
BoundedProducer = ComesTo bounded_producer [] bounded_report
    × ComesTo bounded_producer (replicate 7 0 ++ replicate 20 1) bounded_report

-- ---- the owner leaves a phaser of its finish before it waits for the child

abbrev pub owner_leaves_before_shut : Program
owner_leaves_before_shut = program (
    plain OpenFinish
    ∷ plain (New 0 SigWait (unbounded []))
    ∷ within (Async (on 0 OnlyWait ∷ [])) (plain Next ∷ [])
    ∷ plain ShutFinish
    ∷ [])

abbrev pub OwnerLeavesBeforeShut : Type 0
OwnerLeavesBeforeShut = ComesTo owner_leaves_before_shut [] (record {
  phasers = phases_of 0 1 [] ∷ [];
  tasks = ended 0 ∷ ended 1 ∷ [];
  finishes = tasks_in 0 0 ∷ tasks_in 1 1 ∷ [];
  totals = in_all 2 0 1 2 0 0 0;
})
