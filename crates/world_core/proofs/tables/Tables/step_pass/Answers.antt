use Rattle.world_records.proofs.PassMade.{pass_is_step}
use Rattle.world_core.proofs.tables.Tables.step_pass.Goals as goal

pub returns : goal.returns
returns c = rw (c.pass_due.ensures.answer, c.pass_due.ensures.state) (pass_is_step c.args.self.now c.args.phaser c.args.task)
