use Rattle.std.proofs.Common.{rules}
use Rattle.std.proofs.Output.{has_written_append}
use Rattle.judge_job.proofs.report.ReportDisplay.fmt.Goals as goal

pub returns-clause-writes : goal.returns-clause-writes
returns-clause-writes g c =
    λ plain ok.
    let first = c.write_phasers.ensures plain (search rules) in
    let second = c.write_registrations.ensures first.plain (search rules) in
    let third = c.write_turns.ensures second.plain ok in
    has_written_append _ _ _ _ _ _ (has_written_append _ _ _ _ _ _ first second) third
