-- Worked examples: traces that are explained, and where changed ones are first at fault.
use Rattle.std.specs.Prelude.{◌≡◌, ℕ, List, [], ◌∷◌, ◌++◌, Some, None, true, pos}
use Rattle.phase_modes.specs.Limits.{default_limits}
use Rattle.phase_modes.specs.declared.reg.Mode.TheVariants.{SigWait}
use Rattle.phase_model.specs.declared.op.Op.TheVariants.{Sum}
use Rattle.phase_model.specs.declared.op.Look.TheVariants.{Value}
use Rattle.finish_core.specs.declared.event.FinishEvent.TheVariants.{Opened, Spawned, Ended, Shut as Shutting}
use Rattle.world_model.specs.declared.event.Begun.TheVariants.{Async, Next, Shut, End}
use Rattle.trace_model.specs.declared.event.TracedStep.TheVariants.{Make, Sig, Pass, Send, Look, Drop}
use Rattle.trace_model.specs.declared.event.TracedEvent.TheVariants.{Phaser, Finish, Begin}
use Rattle.world_model.specs.ExampleWords.{unbounded}
use Rattle.trace_model.specs.Run.{Entry, Run}
use Rattle.trace_model.specs.Explained.{is_explained, first_fault}
use Rattle.trace_model.specs.Projections.{phaser, finish, log, projection}

-- a trace with the limits of a run that names none
abbrev pub traced : List Entry → Run
traced es = record { limits = default_limits; events = es }

-- the smallest trace: one task makes a phaser, ends one turn on it, and ends
abbrev pub made_and_begun : List Entry
made_and_begun = (1, Phaser 0 (Make 0 SigWait (unbounded []))) ∷ (2, Begin 0 Next) ∷ []

abbrev pub ended_but_for_shut : List Entry
ended_but_for_shut = (5, Begin 0 End) ∷ (6, Phaser 0 (Drop 0)) ∷ []

abbrev pub smallest : Run
smallest = traced (made_and_begun
    ++ ((3, Phaser 0 (Sig 0 None)) ∷ (4, Phaser 0 (Pass 0)) ∷ [])
    ++ ended_but_for_shut ++ (7, Finish 0 Shutting) ∷ [])

-- no run has two of its events the other way round, one ticket twice, or no end
abbrev pub SmallestTrace : Type 0
SmallestTrace =
    (is_explained smallest ≡ true) × (first_fault smallest ≡ None)
    × (first_fault (traced (made_and_begun
    ++ ((3, Phaser 0 (Pass 0)) ∷ (4, Phaser 0 (Sig 0 None)) ∷ [])
    ++ ended_but_for_shut ++ (7, Finish 0 Shutting) ∷ [])) ≡ Some 3)
    × (first_fault (traced (made_and_begun
    ++ ((3, Phaser 0 (Sig 0 None)) ∷ (3, Phaser 0 (Pass 0)) ∷ [])
    ++ ended_but_for_shut ++ (7, Finish 0 Shutting) ∷ [])) ≡ Some 4)
    × (first_fault (traced (made_and_begun
    ++ ((3, Phaser 0 (Sig 0 None)) ∷ (4, Phaser 0 (Pass 0)) ∷ [])
    ++ ended_but_for_shut)) ≡ Some 7)

-- what the smallest trace has of phaser 0, of the log of task 0, of finish 0, and of a second task's log
abbrev pub SmallestProjections : Type 0
SmallestProjections =
    (projection (phaser 0) smallest.events
    ≡ (1, Phaser 0 (Make 0 SigWait (unbounded []))) ∷ (3, Phaser 0 (Sig 0 None)) ∷ (4, Phaser 0 (Pass 0))
    ∷ (6, Phaser 0 (Drop 0)) ∷ [])
    × (projection (log 0) smallest.events ≡ (2, Begin 0 Next) ∷ (5, Begin 0 End) ∷ [])
    × (projection (finish 0) smallest.events ≡ (7, Finish 0 Shutting) ∷ [])
    × (projection (log 1) smallest.events ≡ [])

-- the owner of finish 1 waits for a task that its child spawned
abbrev pub nested_finish : Run
nested_finish = traced
    ((1, Finish 1 (Opened 0))
    ∷ (2, Begin 0 (Async 1 []))
    ∷ (3, Finish 1 (Spawned 1))
    ∷ (4, Begin 1 (Async 2 []))
    ∷ (5, Finish 1 (Spawned 2))
    ∷ (6, Begin 1 End)
    ∷ (7, Finish 1 (Ended 1))
    ∷ (8, Begin 0 Shut)
    ∷ (9, Begin 2 Next)
    ∷ (10, Begin 2 End)
    ∷ (11, Finish 1 (Ended 2))
    ∷ (12, Finish 1 Shutting)
    ∷ (13, Begin 0 End)
    ∷ (14, Finish 0 Shutting)
    ∷ [])

abbrev pub NestedFinish : Type 0
NestedFinish = first_fault nested_finish ≡ None

-- a sender looks at what it sent, and saw this
abbrev pub sent_and_seen : ℕ → Run
sent_and_seen seen = traced
    ((10, Phaser 0 (Make 0 SigWait (unbounded (Sum ∷ []))))
    ∷ (20, Phaser 0 (Send 0 0 (pos 5)))
    ∷ (30, Begin 0 Next)
    ∷ (40, Phaser 0 (Sig 0 None))
    ∷ (50, Phaser 0 (Pass 0))
    ∷ (60, Phaser 0 (Look 0 0 (Value (pos seen))))
    ∷ (70, Begin 0 End)
    ∷ (80, Phaser 0 (Drop 0))
    ∷ (90, Finish 0 Shutting)
    ∷ [])

-- a look that saw another value is the first fault
abbrev pub SentAndSeen : Type 0
SentAndSeen = (first_fault (sent_and_seen 5) ≡ None) × (first_fault (sent_and_seen 6) ≡ Some 6)
