use Rattle.std.proofs.Common.{◌≡◌, true, map, length, reverse, sym, subst, ap, ◌∙◌}
use Rattle.std.specs.List.{range_with_len}
use Rattle.world_model.specs.Report.{report_of}
use Rattle.trace_walk.specs.Follows.{follows}
use Rattle.trace_walk.specs.Laws.{AllGiveUp}
use Rattle.trace_walk.specs.Picks.{run_within}
use Rattle.trace_model.specs.Run as traces
use Rattle.trace_model.specs.Explained.{is_explained, past}
use Rattle.schedule_run.proofs.Overs.{said_limits, said_explained, said_events, said_follows, said_give_up, said_report}
use Rattle.schedule_run.proofs.Tickets.{said_tickets}
use Rattle.schedule_run.proofs.run.run_picks.Goals as goal

pub returns-clause-limits : goal.returns-clause-limits
returns-clause-limits c =
    let b = c.in_ok-runner.ensures.run in
    ap (λ (t : traces.Run). t.limits) c.into_trace-trace.ensures ∙ said_limits c.args.program.now (run_within b.0 c.args.program.now c.args.picks.now) c.in_ok-runner.runner b.2

pub returns-clause-explained : goal.returns-clause-explained
returns-clause-explained c =
    let b = c.in_ok-runner.ensures.run in
    subst (λ (t : traces.Run). is_explained t ≡ true) (sym c.into_trace-trace.ensures)
    (said_explained c.args.program.now (run_within b.0 c.args.program.now c.args.picks.now) c.in_ok-runner.runner b.2 b.1)

pub returns-clause-tickets : goal.returns-clause-tickets
returns-clause-tickets c =
    let b = c.in_ok-runner.ensures.run in
    subst (λ (t : traces.Run). map (λ e. e.0) t.events ≡ range_with_len 1 (length t.events)) (sym c.into_trace-trace.ensures)
    (said_tickets c.args.program.now (run_within b.0 c.args.program.now c.args.picks.now) c.in_ok-runner.runner b.2)

pub returns-clause-by_picks : goal.returns-clause-by_picks
returns-clause-by_picks c =
    let b = c.in_ok-runner.ensures.run in (
      b.0,
      ap (λ (t : traces.Run). past (reverse t.events)) c.into_trace-trace.ensures ∙ said_events c.args.program.now (run_within b.0 c.args.program.now c.args.picks.now) c.in_ok-runner.runner b.2,
    )

pub returns-clause-follows : goal.returns-clause-follows
returns-clause-follows c =
    let b = c.in_ok-runner.ensures.run in
    subst (λ (t : traces.Run). follows c.args.program.now (past (reverse t.events)) ≡ true) (sym c.into_trace-trace.ensures)
    (said_follows c.args.program.now c.args.picks.now b.0 c.in_ok-runner.runner b.2)

pub returns-clause-give_up : goal.returns-clause-give_up
returns-clause-give_up c =
    let b = c.in_ok-runner.ensures.run in
    subst (λ (t : traces.Run). AllGiveUp c.args.program.now.limits (past (reverse t.events))) (sym c.into_trace-trace.ensures)
    (said_give_up c.args.program.now c.args.picks.now b.0 c.in_ok-runner.runner b.2)

pub returns-clause-report : goal.returns-clause-report
returns-clause-report c =
    let b = c.in_ok-runner.ensures.run in
    said_report c.args.program.now (run_within b.0 c.args.program.now c.args.picks.now) c.in_ok-runner.runner c.report.result c.in_ok-report.report b.2 c.report.ensures.report c.in_ok-report.was
    ∙ ap (λ (t : traces.Run). report_of c.args.program.now.limits (past (reverse t.events))) (sym c.into_trace-trace.ensures)
