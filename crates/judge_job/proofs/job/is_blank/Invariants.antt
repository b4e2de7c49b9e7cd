-- All bytes so far are blank.
use Rattle.std.proofs.Common.{◌≡◌, true, take}
use Rattle.std.specs.List.{list_all}
use Rattle.judge_job.specs.Logs.{is_blank_byte}
use Rattle.judge_job.proofs.job.is_blank.Given as goal

abbrev pub invariant-loop-byte : goal.invariant-loop-byte
invariant-loop-byte l = list_all is_blank_byte (take l.byte-index l.bytes) ≡ true
