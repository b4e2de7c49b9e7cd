-- For whom an event had to wait, as C is told.
use Rattle.std.specs.Prelude.{ℕ, ◌++◌, ◌-◌, List, take, replicate, length, Option, Some, Result, Ok}
use Rattle.phaser_judge.specs.declared.event.Named.{Named}
use Rattle.phaser_judge.specs.declared.event.Named.TheVariants as named
use Rattle.phaser_judge.specs.declared.event.NamedEvent.{NamedEvent}
use Rattle.phaser_judge.specs.Courses.{Course}
use Rattle.phaser_judge.specs.Owing.{phase_at, owing_at}
use Rattle.phaser_judge.specs.Standings.{Standing, standing}
use Rattle.phaser_c.specs.declared.answer.ExportAnswer.{ExportAnswer}
use Rattle.phaser_c.specs.declared.answer.ExportAnswer.TheVariants.{HadToWait}
use Rattle.phaser_c.specs.declared.judge_why.GivenWhy.{GivenWhy}

-- the first sixteen of these tasks; behind fewer stand zeros
abbrev pub first_tasks : List ℕ → List ℕ
first_tasks ts = take 16 ts ++ replicate (16 - length ts) 0

-- this phase, how many tasks owe it, and the first of them
abbrev pub why_given : ℕ → List ℕ → GivenWhy
why_given p ts = record { phase = p; count = length ts; tasks = first_tasks ts }

-- nobody is named
abbrev pub nobody : GivenWhy
nobody = record { phase = 0; count = 0; tasks = replicate 16 0 }

-- of a pass and a claim the phase at which their task stands, and all tasks that owe it (`IsOwingTo`); of another event
-- nobody
abbrev pub why_at : Option Standing → Named → GivenWhy
why_at (Some s) (named.Pass t) = why_given (phase_at s t) (owing_at s t)
why_at (Some s) (named.Claim t) = why_given (phase_at s t) (owing_at s t)
why_at _ _ = nobody

-- what is told beside the answer: if that is that the event had to wait, for whom; else nobody
abbrev pub why_told : Result NamedEvent ExportAnswer → Option Course → ExportAnswer → GivenWhy
why_told (Ok e) (Some c) HadToWait = why_at (standing e.phaser c.events) e.event
why_told _ _ _ = nobody
