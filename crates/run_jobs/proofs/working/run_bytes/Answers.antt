-- The program that was read is the one that the bytes spell, and what was written are the texts of its run.
use Rattle.std.proofs.Common.{rules, ap}
use Rattle.world_model.specs.ReportLines.{report_text}
use Rattle.run_jobs.proofs.working.run_bytes.Goals as goal

pub returns-clause-done : goal.returns-clause-done
returns-clause-done g c =
    let made = c.in_ok-report.ensures in
    let lines = ap report_text made.world in (
      c.in_ok-program.program,
      c.in_ok-report.report.trace,
      search rules,
      made.ran,
      (search (rules, lines), search rules),
    )
