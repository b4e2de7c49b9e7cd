use Rattle.world_records.proofs.MakeMade.{make_is_step}
use Rattle.world_core.proofs.tables.Tables.step_make.Goals as goal

pub returns : goal.returns
returns c = rw (c.make_phaser.ensures.answer, c.make_phaser.ensures.state) (make_is_step c.args.self.now c.args.phaser c.args.task c.args.mode c.args.terms c.make_phaser.ensures.phasers c.make_phaser.ensures.enclosing)
