-- Worked examples: two whole runs of the same bodies, in two orders; and what happens if a premise is left out.
use Rattle.std.specs.Prelude.{ℕ, pos, ◌≡◌, true, false, List, [], ◌∷◌, reverse, Some, None}
use Rattle.phase_modes.specs.declared.limits.Limits.{Limits}
use Rattle.phase_modes.specs.declared.reg.Mode.TheVariants.{Sig as OnlySig, SigWait}
use Rattle.phase_modes.specs.Limits.{default_limits}
use Rattle.phase_model.specs.declared.op.Op.TheVariants.{Sum}
use Rattle.phase_model.specs.declared.op.Look.TheVariants.{Value}
use Rattle.finish_core.specs.declared.event.FinishEvent.TheVariants.{Spawned, Ended, Shut as Shutting}
use Rattle.job_script.specs.declared.act.Act.TheVariants as acts
use Rattle.job_script.specs.declared.act.Answer.{Answer}
use Rattle.job_script.specs.declared.act.Answer.TheVariants.{Saw}
use Rattle.world_model.specs.ExampleWords.{unbounded, plain, on}
use Rattle.world_model.specs.declared.event.Step.TheVariants.{Make, Reg, Sig, Pass, Send, Look, Drop}
use Rattle.world_model.specs.declared.event.Begun.TheVariants.{Async, Next, End}
use Rattle.world_model.specs.declared.event.WorldEvent.{WorldEvent}
use Rattle.world_model.specs.declared.event.WorldEvent.TheVariants.{Phaser, Finish, Begin, Fail}
use Rattle.world_model.specs.Replies.{is_legal_world}
use Rattle.world_model.specs.Report.{report_of, refused_by}
use Rattle.world_model.specs.Tasks.{is_ended}
use Rattle.job_script.specs.Program.{Program}
use Rattle.job_script.specs.declared.head.Head.TheVariants.{Async as AsyncHead, New as NewHead, Next as NextHead}
use Rattle.trace_walk.specs.ExampleWords.{plain as plain_act, program, within}
use Rattle.trace_walk.specs.RunExamples.{two_senders}
use Rattle.trace_walk.specs.Going.{goes_by}
use Rattle.trace_walk.specs.Walking.{Does}
use Rattle.trace_walk.specs.Whole.{IsWhole}
use Rattle.run_laws.specs.Telling.{in_order}
use Rattle.run_laws.specs.Texts.{root_draws_alone}
use Rattle.run_laws.specs.Schedules.{IsOrderly}
use Rattle.run_laws.specs.Determinacy.{IsRun}
use Rattle.run_laws.specs.Memory.{has_memory, is_roomy}

-- ---- two tasks on a phaser: each sends a value, takes a turn and looks; the child then sends what it saw

-- where a task stands: the root, and its child
pub data Moment : Type 0 where
  root_begins : Moment
  root_spawns : Moment
  root_sends : Moment
  root_turns : Moment
  root_looks : Moment
  child_sends : Moment
  child_turns : Moment
  child_looks : Moment
  child_repeats : Moment
  ends : Moment

-- the root makes a phaser, spawns a child, sends 3, takes a turn and looks; the child does so with 4, and sends what it
-- saw
abbrev pub pair_next : Answer → Moment → Does Moment
pair_next x root_begins = (acts.New SigWait (Sum ∷ []) None, root_spawns)
pair_next x root_spawns = (acts.AsyncAll child_sends, root_sends)
pair_next x root_sends = (acts.Send 0 0 (pos 3), root_turns)
pair_next x root_turns = (acts.Next, root_looks)
pair_next x root_looks = (acts.Look 0 0, ends)
pair_next x child_sends = (acts.Send 0 0 (pos 4), child_turns)
pair_next x child_turns = (acts.Next, child_looks)
pair_next x child_looks = (acts.Look 0 0, child_repeats)
pair_next (Saw (Value z)) child_repeats = (acts.Send 0 0 z, ends)
pair_next x m = (acts.End, ends)

-- both begin so
abbrev pub spawned_pair : List WorldEvent → List WorldEvent
spawned_pair es =
    Phaser 0 (Make 0 SigWait (unbounded (Sum ∷ [])))
    ∷ Begin 0 (Async 1 (on 0 SigWait ∷ []))
    ∷ Phaser 0 (Reg 0 1 SigWait)
    ∷ Finish 0 (Spawned 1)
    ∷ es

-- the root goes on first
abbrev pub root_first : List WorldEvent
root_first = reverse (spawned_pair (
    Phaser 0 (Send 0 0 (pos 3))
    ∷ Begin 0 Next
    ∷ Phaser 0 (Sig 0 None)
    ∷ Phaser 0 (Send 1 0 (pos 4))
    ∷ Begin 1 Next
    ∷ Phaser 0 (Sig 1 None)
    ∷ Phaser 0 (Pass 0)
    ∷ Phaser 0 (Look 0 0)
    ∷ Begin 0 End
    ∷ Phaser 0 (Drop 0)
    ∷ Phaser 0 (Pass 1)
    ∷ Phaser 0 (Look 1 0)
    ∷ Phaser 0 (Send 1 0 (pos 7))
    ∷ Begin 1 End
    ∷ Phaser 0 (Drop 1)
    ∷ Finish 0 (Ended 1)
    ∷ Finish 0 Shutting
    ∷ []))

-- its child goes on first
abbrev pub child_first : List WorldEvent
child_first = reverse (spawned_pair (
    Phaser 0 (Send 1 0 (pos 4))
    ∷ Begin 1 Next
    ∷ Phaser 0 (Sig 1 None)
    ∷ Phaser 0 (Send 0 0 (pos 3))
    ∷ Begin 0 Next
    ∷ Phaser 0 (Sig 0 None)
    ∷ Phaser 0 (Pass 1)
    ∷ Phaser 0 (Look 1 0)
    ∷ Phaser 0 (Send 1 0 (pos 7))
    ∷ Begin 1 End
    ∷ Phaser 0 (Drop 1)
    ∷ Finish 0 (Ended 1)
    ∷ Phaser 0 (Pass 0)
    ∷ Phaser 0 (Look 0 0)
    ∷ Begin 0 End
    ∷ Phaser 0 (Drop 0)
    ∷ Finish 0 Shutting
    ∷ []))

-- so there are two runs of which the laws speak
abbrev pub PairRuns : Type 0
PairRuns =
    IsRun pair_next root_begins in_order default_limits root_first
    × IsRun pair_next root_begins in_order default_limits child_first

-- ---- if two tasks draw numbers of one kind, who comes first decides which phaser is which

-- where a task stands: the root, which spawns two, and these
pub data Maker : Type 0 where
  spawns_one : Maker
  spawns_other : Maker
  makes_first : Maker
  makes_second : Maker
  turns_once : Maker
  done : Maker

-- each of the two makes a phaser, and the one spawned first takes a turn on its own
abbrev pub maker_next : Answer → Maker → Does Maker
maker_next x spawns_one = (acts.AsyncAll makes_first, spawns_other)
maker_next x spawns_other = (acts.AsyncAll makes_second, done)
maker_next x makes_first = (acts.New OnlySig [] None, turns_once)
maker_next x turns_once = (acts.Next, done)
maker_next x makes_second = (acts.New OnlySig [] None, done)
maker_next x done = (acts.End, done)

-- the root spawns both, and ends
abbrev pub two_makers : List WorldEvent → List WorldEvent
two_makers es =
    Begin 0 (Async 1 [])
    ∷ Finish 0 (Spawned 1)
    ∷ Begin 0 (Async 2 [])
    ∷ Finish 0 (Spawned 2)
    ∷ Begin 0 End
    ∷ es

-- task 1 makes phaser n, and task 2 phaser m
abbrev pub made_as : ℕ → ℕ → List WorldEvent
made_as n m = reverse (two_makers (
    Phaser n (Make 1 OnlySig plain)
    ∷ Phaser m (Make 2 OnlySig plain)
    ∷ Begin 1 Next
    ∷ Phaser n (Sig 1 None)
    ∷ Phaser n (Pass 1)
    ∷ Begin 1 End
    ∷ Phaser n (Drop 1)
    ∷ Finish 0 (Ended 1)
    ∷ Begin 2 End
    ∷ Phaser m (Drop 2)
    ∷ Finish 0 (Ended 2)
    ∷ Finish 0 Shutting
    ∷ []))

-- two whole runs of the same bodies, and two reports
abbrev pub NumbersByLuck : Type 0
NumbersByLuck =
    IsWhole maker_next spawns_one default_limits (made_as 0 1)
    × IsWhole maker_next spawns_one default_limits (made_as 1 0)
    × (report_of default_limits (made_as 0 1) ≡ report_of default_limits (made_as 1 0) → ⊥)

-- ---- if room is scarce, a task may be refused in one run and not in another

-- where a task stands: the root, which spawns two one after the other, and these
pub data Crowd : Type 0 where
  crowd_begins : Crowd
  spawns_once : Crowd
  spawns_again : Crowd
  leaves : Crowd

-- the root makes a phaser and spawns two tasks on it; each of these only leaves
abbrev pub crowd_next : Answer → Crowd → Does Crowd
crowd_next x crowd_begins = (acts.New SigWait [] None, spawns_once)
crowd_next x spawns_once = (acts.AsyncAll leaves, spawns_again)
crowd_next x spawns_again = (acts.AsyncAll leaves, leaves)
crowd_next x leaves = (acts.End, leaves)

-- two tasks at most are on a phaser
abbrev pub few : Limits
few = record { acts = 16; finishes = 1; history = 64; phasers = 1; regs = 2; tasks = 4 }

-- the first child hasn't left where the second is to be registered
abbrev pub crowd : List WorldEvent → List WorldEvent
crowd es =
    Phaser 0 (Make 0 SigWait plain)
    ∷ Begin 0 (Async 1 (on 0 SigWait ∷ []))
    ∷ Phaser 0 (Reg 0 1 SigWait)
    ∷ Finish 0 (Spawned 1)
    ∷ Begin 0 (Async 2 (on 0 SigWait ∷ []))
    ∷ es

-- the first child leaves in time
abbrev pub in_time : List WorldEvent
in_time = reverse (
    Phaser 0 (Make 0 SigWait plain)
    ∷ Begin 0 (Async 1 (on 0 SigWait ∷ []))
    ∷ Phaser 0 (Reg 0 1 SigWait)
    ∷ Finish 0 (Spawned 1)
    ∷ Begin 1 End
    ∷ Phaser 0 (Drop 1)
    ∷ Finish 0 (Ended 1)
    ∷ Begin 0 (Async 2 (on 0 SigWait ∷ []))
    ∷ Phaser 0 (Reg 0 2 SigWait)
    ∷ Finish 0 (Spawned 2)
    ∷ Begin 0 End
    ∷ Phaser 0 (Drop 0)
    ∷ Begin 2 End
    ∷ Phaser 0 (Drop 2)
    ∷ Finish 0 (Ended 2)
    ∷ Finish 0 Shutting
    ∷ [])

-- or it doesn't, and the root gives up
abbrev pub too_late : List WorldEvent
too_late = reverse (crowd (
    Fail 0 14
    ∷ Phaser 0 (Drop 0)
    ∷ Begin 1 End
    ∷ Phaser 0 (Drop 1)
    ∷ Finish 0 (Ended 1)
    ∷ Finish 0 Shutting
    ∷ []))

-- two histories of the same bodies whose roots have ended: in one nobody is refused, in the other the root gives up
abbrev pub RefusedByLuck : Type 0
RefusedByLuck =
    IsWhole crowd_next crowd_begins few in_time
    × (is_legal_world few too_late ≡ true)
    × (goes_by crowd_next crowd_begins too_late ≡ true)
    × (is_ended 0 too_late ≡ true)
    × (refused_by 0 too_late ≡ Some 14)

-- so if somebody has to leave in time, want of memory isn't all that luck decides: the calm one of the two isn't
-- roomy, since three tasks were on the phaser in all; in the other the root gives up if registrations are full.
-- The run of a pair is roomy
abbrev pub NotRoomy : Type 0
NotRoomy =
    (is_roomy few in_time ≡ false)
    × (has_memory few too_late ≡ true)
    × (is_roomy default_limits root_first ≡ true)

-- ---- runs by picks that foretell each other one

-- the root spawns a child, and this makes a phaser and takes a turn on it
abbrev pub child_makes : Program
child_makes = program (
    within (AsyncHead []) (plain_act (NewHead 0 SigWait (unbounded [])) ∷ plain_act NextHead ∷ [])
    ∷ [])

-- two tasks send for two phases, and no child draws a number; or a child makes the phaser. Sixty rounds are enough
abbrev pub OrderlyRuns : Type 0
OrderlyRuns =
    IsOrderly two_senders [] 60
    × IsOrderly child_makes [] 60
    × (root_draws_alone child_makes ≡ false)
