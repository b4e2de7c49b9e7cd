-- The trace is of a run of the program, since it was answered that it follows it.
use Rattle.std.proofs.Common.{rules, ◌≡◌, true, reverse, ap, ◌∙◌}
use Rattle.world_model.specs.Report.{report_of}
use Rattle.trace_model.specs.Explained.{past}
use Rattle.trace_walk.specs.Follows.{follows}
use Rattle.trace_walk.specs.History as histories
use Rattle.run_jobs.proofs.Turned.{turned}
use Rattle.run_jobs.proofs.asking.run_program.Goals as goal

pub returns-clause-ran : goal.returns-clause-ran
returns-clause-ran g c =
    let program = c.args.program.now in
    let trace = c.in_ok-report.report.trace in
    let made = c.in_ok-report.ensures in
    let followed : follows program (histories.history trace.events) ≡ true = search rules in
    record {
      limits = made.limits ∙ c.limits.ensures.limits;
      explained = made.explained;
      follows_it = ap (λ w. follows program w) (turned trace.events) ∙ followed;
    }

pub returns-clause-world : goal.returns-clause-world
returns-clause-world g c =
    let trace = c.in_ok-report.report.trace in
    c.in_ok-report.ensures.world ∙ ap (λ l. report_of l (past (reverse trace.events))) c.limits.ensures.limits
