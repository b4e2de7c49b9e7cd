use Rattle.world_records.proofs.Drawn.{phasers_unused, tasks_unused, finishes_unused}
use Rattle.world_core.proofs.tables.Tables.unused.Goals as goal

pub returns-clause-phaser : goal.returns-clause-phaser
returns-clause-phaser c w st = rw c.unmade.ensures (phasers_unused c.args.self.now w st)

pub returns-clause-task : goal.returns-clause-task
returns-clause-task c w st = rw c.unnamed.ensures (tasks_unused c.args.self.now w st)

pub returns-clause-finish : goal.returns-clause-finish
returns-clause-finish c w st = rw c.unopened.ensures (finishes_unused c.args.self.now w st)
