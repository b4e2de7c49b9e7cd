use Rattle.std.proofs.Common.{rules}
use Rattle.std.proofs.Output.{has_written_append}
use Rattle.judge_job.proofs.stop.WhyDisplay.fmt.Goals as goal

pub returns-clause-writes : goal.returns-clause-writes
returns-clause-writes g c =
    λ plain ok.
    let first = c.write.ensures.writes plain (search rules) in
    let second = c.write_reason.ensures first.plain (search rules) in
    let third = c.write-2.ensures.writes second.plain ok in
    has_written_append _ _ _ _ _ _ (has_written_append _ _ _ _ _ _ first second) third
