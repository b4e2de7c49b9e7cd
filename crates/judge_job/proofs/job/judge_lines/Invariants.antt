-- What is left has, from the next line on, the verdict of all; and what `every` asks for was told.
use Rattle.std.proofs.Common.{◌≡◌, ◌-◌, ◌≤◌, false}
use Rattle.judge_job.specs.Logs.{nothing}
use Rattle.judge_job.specs.Standing.{judged_of}
use Rattle.judge_job.specs.Endings.{GoesOn, Tells, rest_from}
use Rattle.judge_job.proofs.job.judge_lines.Given as goal

abbrev pub invariant-loop-place : goal.invariant-loop-place
invariant-loop-place g l =
    (l.judging.judge.over ≡ false)
    × (l.place ≤ 18446744073709551615)
    × GoesOn (rest_from l.fn.first nothing) (g.B.Read.remaining l.fn.reader) (rest_from l.place (judged_of l.judging)) (g.B.Read.remaining l.reader)
    × (l.telling.every ≡ l.fn.telling.every)
    × Tells l.fn.telling.every l.writes l.judging.judge.events (g.F.Write.contents l.fn.faults) (g.F.Write.contents l.faults)

abbrev pub decreases-loop-place : goal.decreases-loop-place
decreases-loop-place g l = 18446744073709551615 - l.place
