use Rattle.world_records.proofs.SignalMade.{signal_is_step}
use Rattle.world_core.proofs.tables.Tables.step_signal.Goals as goal

pub returns : goal.returns
returns c = rw (c.signal_due.ensures.answer, c.signal_due.ensures.state) (signal_is_step c.args.self.now c.args.phaser c.args.task c.args.number)
