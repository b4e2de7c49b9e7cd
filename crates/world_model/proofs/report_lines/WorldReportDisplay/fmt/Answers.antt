use Rattle.std.proofs.Common.{rules}
use Rattle.std.proofs.Output.{has_written_append}
use Rattle.world_model.proofs.report_lines.WorldReportDisplay.fmt.Goals as goal

-- src/report_lines.rt:94:5
pub returns-clause-writes : goal.returns-clause-writes
returns-clause-writes g c =
    λ plain ok.
    let phasers = c.write_phasers.ensures plain (search rules) in
    let tasks = c.write_tasks.ensures phasers.plain (search rules) in
    let finishes = c.write_finishes.ensures tasks.plain (search rules) in
    let totals = c.write.ensures.writes finishes.plain ok in
    rw (← c.self.view_is, ← c.deref.ensures.value, ← c.deref-2.ensures.value, ← c.deref-3.ensures.value)
    (has_written_append _ _ _ _ _ _ (has_written_append _ _ _ _ _ _ (has_written_append _ _ _ _ _ _ phasers tasks) finishes) totals)
