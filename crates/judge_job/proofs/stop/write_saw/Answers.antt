use Rattle.std.proofs.Common.{rules}
use Rattle.std.proofs.Output.{has_written_append}
use Rattle.judge_job.proofs.stop.write_saw.Goals as goal

pub returns : goal.returns
returns g c =
    λ plain ok.
    let first = c.write.ensures.writes plain (search rules) in
    has_written_append _ _ _ _ _ _ first (c.write_seen.ensures first.plain ok)
