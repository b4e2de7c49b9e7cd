use Rattle.world_records.proofs.SingleMade.{report_is_step}
use Rattle.world_core.proofs.tables.Tables.step_report.Goals as goal

pub returns : goal.returns
returns c = rw (c.report_due.ensures.answer, c.report_due.ensures.state) (report_is_step c.args.self.now c.args.phaser c.args.task)
