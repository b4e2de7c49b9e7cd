-- The number so far is written by the digits so far.
use Rattle.std.proofs.Common.{◌≡◌, ◌<◌, ◌≤◌, ◌-◌, decimal, length, take}
use Rattle.judge_job.proofs.compact.number.Given as goal

abbrev pub invariant-loop-digit : goal.invariant-loop-digit
invariant-loop-digit l = (l.len ≤ length l.bytes) × (0 < l.number) × (decimal l.number ≡ take l.len l.bytes)

abbrev pub decreases-loop-digit : goal.decreases-loop-digit
decreases-loop-digit l = length l.bytes - l.len
