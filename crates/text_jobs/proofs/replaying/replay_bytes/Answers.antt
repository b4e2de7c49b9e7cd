-- The trace that was read is the one that the bytes spell, and its report is the one that was replayed.
use Rattle.std.proofs.Common.{rules, ap, ◌∙◌}
use Rattle.world_model.specs.ReportLines.{report_text}
use Rattle.text_jobs.proofs.TraceSpelled.{within}
use Rattle.text_jobs.proofs.replaying.replay_bytes.Goals as goal

pub returns-clause-done : goal.returns-clause-done
returns-clause-done g c =
    let replayed = c.in_ok-report.ensures in
    let lines = ap report_text replayed.1 in (
      c.in_ok-trace.trace,
      within c.args.input.now (search rules) ∙ c.in_ok-trace.ensures,
      replayed.0,
      search (rules, lines),
    )
