-- What is left has, from the next line on, the verdict of all.
use Rattle.std.proofs.Common.{◌-◌, ◌≤◌}
use Rattle.judge_job.specs.Endings.{GoesOn, head_from}
use Rattle.judge_job.proofs.job.take_header.Given as goal

abbrev pub invariant-loop-place : goal.invariant-loop-place
invariant-loop-place g l =
    (l.place ≤ 18446744073709551615)
    × GoesOn (head_from 1) (g.B.Read.remaining l.fn.reader) (head_from l.place) (g.B.Read.remaining l.reader)

abbrev pub decreases-loop-place : goal.decreases-loop-place
decreases-loop-place g l = 18446744073709551615 - l.place
