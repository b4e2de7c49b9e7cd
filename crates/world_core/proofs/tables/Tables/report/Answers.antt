-- The tables' report is the history's.
use Rattle.std.proofs.Common.{◌≡◌, IfOk, subst}
use Rattle.world_model.specs.Report.{Report}
use Rattle.world_records.proofs.Reported.{report_is}
use Rattle.world_core.proofs.tables.Tables.report.Goals as goal

pub returns-clause-report : goal.returns-clause-report
returns-clause-report c w st =
    subst (λ (x : Report). IfOk c.kept_report.result (λ r. r ≡ x)) (report_is c.args.self.now w st) c.kept_report.ensures.report
