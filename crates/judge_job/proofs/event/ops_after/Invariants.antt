use Rattle.std.proofs.Common.{◌≡◌, [], ◌+◌, length}
use Rattle.judge_job.specs.Forms.{ops_from}
use Rattle.judge_job.proofs.event.ops_after.Given as goal

-- the operators so far, and the room for more
abbrev pub invariant-loop-room : goal.invariant-loop-room
invariant-loop-room l = (length l.ops + l.room ≡ 4) × (ops_from l.room l.ops l.reader ≡ ops_from 4 [] l.fn.reader)

abbrev pub decreases-loop-room : goal.decreases-loop-room
decreases-loop-room l = l.room
