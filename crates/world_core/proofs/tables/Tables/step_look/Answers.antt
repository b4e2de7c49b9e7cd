use Rattle.world_records.proofs.SendMade.{look_is_step}
use Rattle.world_core.proofs.tables.Tables.step_look.Goals as goal

pub returns : goal.returns
returns c = rw (c.look_at.ensures.answer, c.look_at.ensures.state) (look_is_step c.args.self.now c.args.phaser c.args.task c.args.accumulator)
