-- The program that was read is the one that the bytes spell, and what was written are the texts of its run.
use Rattle.std.proofs.Common.{rules, ap}
use Rattle.world_model.specs.ReportLines.{report_text}
use Rattle.text_jobs.proofs.scheduling.schedule_bytes.Goals as goal

pub returns-clause-done : goal.returns-clause-done
returns-clause-done g c =
    let ran = c.in_ok-run.ensures in
    let lines = ap report_text ran.report in (
      c.in_ok-program.program,
      c.in_ok-run.run'.trace,
      search rules,
      record {
        rounds = ran.by_picks.0;
        picked = ran.by_picks.1;
        limits = ran.limits;
        explained = ran.explained;
        follows_it = ran.follows;
        tickets = ran.tickets;
      },
      (search (rules, lines), search rules),
    )
